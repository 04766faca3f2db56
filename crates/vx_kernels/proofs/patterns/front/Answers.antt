use Rattle.std.proofs.Common.{◌≡◌, ◌∷◌, ◌++◌, ap, ◌∙◌, sym, length}
use Rattle.std.specs.Char.{encode_utf8}
use Rattle.vx_kernels.specs.Patterns.{letters}
use Rattle.vx_kernels.proofs.PatternLemmas.{letters_front, letters_none}
use Rattle.vx_kernels.proofs.patterns.front.Goals as goal

pub returns-in-Some : goal.returns-in-Some
returns-in-Some c =
    let split : c.args.text.now ≡ encode_utf8 c.in-Some.c ++ c.as_str.result.now = sym c.chars-rest.ensures.rest ∙ c.in-Some.ensures.steps.0 ∙ ap (λ r. encode_utf8 c.in-Some.c ++ r) (sym c.as_str.ensures) in
    letters_front c.args.fold_case c.args.text.now c.as_str.result.now c.in-Some.c c.utf8.text split ∙ ap (λ d. d ∷ letters c.args.fold_case c.as_str.result.now) (sym c.letter.ensures)

pub returns-in-None : goal.returns-in-None
returns-in-None c = letters_none c.args.fold_case c.args.text.now (ap length (sym c.chars-rest.ensures.rest) ∙ c.in-None.ensures.steps.0.0)

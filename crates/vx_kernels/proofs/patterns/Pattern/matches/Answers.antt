use Rattle.std.proofs.Common.{◌≡◌, ◌∙◌, ap, sym, subst, []}
use Rattle.std.specs.Str.{chars}
use Rattle.vx_kernels.specs.Patterns.{letters, NeedlesFit}
use Rattle.vx_kernels.proofs.PatternLemmas.{pattern_means}
use Rattle.vx_kernels.proofs.patterns.Pattern.matches.Goals as goal

pub returns : goal.returns
returns c fold spelled h =
    let fit : NeedlesFit c.as_slice-2.result.now [] = subst (λ ps. NeedlesFit ps []) (sym c.as_slice-2.ensures.value) h.needles in
    let small : chars c.as_str.result.now ≡ letters c.args.self.now.fold_case c.args.text.now = ap chars c.as_str.ensures.value ∙ c.in_ok-small.ensures ∙ ap (λ b. letters b c.args.text.now) (sym c.if-not-self.false) in
    c.parts_match-2.ensures fit ∙ pattern_means c.args.self.now c.as_slice-2.result.now fold c.args.text.now spelled (chars c.as_str.result.now) c.as_slice-2.ensures.value small h

use Rattle.std.proofs.Common.{◌≡◌, ap, sym, ◌∙◌, [], ◌++◌, true, rules}
use Rattle.std.specs.Str.{chars}
use Rattle.std.specs.String.{string_bytes}
use Rattle.std.proofs.lemmas.Str.{chars-nil, IsUtf8-string_bytes}
use Rattle.vx_kernels.specs.Patterns.{letters}
use Rattle.vx_kernels.proofs.NeedleLemmas.{letters_more}
use Rattle.vx_kernels.proofs.patterns.small_letters.Goals as goal

pub loop-c-init : goal.loop-c-init
loop-c-init c =
    let none : chars (string_bytes c.in_ok-made.made) ≡ [] = ap chars c.in_ok-made.ensures.bytes ∙ chars-nil in
    (c.utf8.text, ap (λ cs. cs ++ letters true c.args.text.now) (sym none))

pub loop-c-preserved : goal.loop-c-preserved
loop-c-preserved c = (
  search rules,
  letters_more _ (string_bytes c.loop-c.made) (string_bytes c.push.new.self) c.in-Some.c _ _ (IsUtf8-string_bytes c.loop-c.made) (IsUtf8-string_bytes c.push.new.self) c.in_ok-push.ensures.bytes c.loop-c.invariant.1 c.in-Some.ensures,
)

use Rattle.std.proofs.Common.{◌≡◌, not, refl, ◌∙◌, ap}
use Rattle.std.specs.Cmp.Lexicographic.{slice_cmp, texts_ties}
use Rattle.std.specs.Ordering.{nat_cmp, is_eq, is_ne}
use Rattle.std.specs.declared.cmp.Ordering.{Ordering}
use Rattle.std.specs.declared.cmp.Ordering.TheVariants.{Less, Equal, Greater}
use Rattle.vx_texts.proofs.comparing.texts_meet.Goals as goal

not_eq : (o : Ordering) → not (is_eq o) ≡ is_ne o
not_eq Less = refl
not_eq Equal = refl
not_eq Greater = refl

pub returns-in-Eq : goal.returns-in-Eq
returns-in-Eq c = rw c.in-Eq.is (c.eq.ensures ∙ texts_ties c.args.left.now c.args.right.now)

pub returns-in-NotEq : goal.returns-in-NotEq
returns-in-NotEq c =
    rw c.in-NotEq.is
    (c.ne.ensures ∙ ap not (texts_ties c.args.left.now c.args.right.now) ∙ not_eq (slice_cmp nat_cmp c.args.left.now c.args.right.now))

use Rattle.std.proofs.Common.{◌≡◌, true, false, cond, sym, ap, subst, ◌∙◌, ◌++◌, [], ◌∷◌}
use Rattle.std.specs.Bool.{OnFalse}
use Rattle.std.specs.HashSet.{contains, IsUnchanged}
use Rattle.std.specs.List.{list_any}
use Rattle.vx_dtype.proofs.DistinctLemmas.{found, not_found}
use Rattle.vx_partition.proofs.EntryLemmas.{none_more, one_more_annotation, passed_over, goes_last, joined}
use Rattle.vx_passes.specs.Annotating.{joined_sets}
use Rattle.vx_partition.proofs.numbered.join_unknown.Goals as goal

pub loop-annotation-preserved-then-not-branch : goal.loop-annotation-preserved-then-not-branch
loop-annotation-preserved-then-not-branch g c =
    let same = g.A.PartialEq.eq in
    let l = c.loop-annotation in
    let y = c.annotation-item.result in
    let copy = g.met.A.Annotation.clone_equals y c.in_ok-clone.field-0 c.in_ok-clone.ensures.cases in
    let had : contains same l.known c.in_ok-clone.field-0 ≡ true = found (contains same l.known c.in_ok-clone.field-0) (sym c.in_ok-insert.ensures.added ∙ c.if-not-branch.true) in
    let has : list_any (same y) l.set.items ≡ true = sym (l.invariant.1 y) ∙ ap (contains same l.known) (sym copy) ∙ had in
    let all = joined_sets same c.args.set.now.items c.args.more.now in (
      passed_over same all c.args.more.now l.set.items l.annotation-index l.invariant.0 y c.loop-annotation-test.true c.annotation-item.is has,
      none_more same g.met.A.Eq.laws.symm l.known c.insert.new.self l.set.items
          (subst (λ b. OnFalse b (IsUnchanged l.known c.insert.new.self)) c.if-not-branch.true c.in_ok-insert.ensures.unchanged) l.invariant.1,
    )

pub loop-annotation-preserved : goal.loop-annotation-preserved
loop-annotation-preserved g c =
    let same = g.A.PartialEq.eq in
    let l = c.loop-annotation in
    let y = c.annotation-item.result in
    let copy = g.met.A.Annotation.clone_equals y c.in_ok-clone.field-0 c.in_ok-clone.ensures.cases in
    let last = g.met.A.Annotation.clone_equals y c.in_ok-clone-2.field-0 c.in_ok-clone-2.ensures.cases in
    let pushed = c.in_ok-push.ensures.items ∙ ap (λ z. l.set.items ++ z ∷ []) last in
    let new : contains same l.known c.in_ok-clone.field-0 ≡ false = not_found (contains same l.known c.in_ok-clone.field-0) (sym c.in_ok-insert.ensures.added ∙ c.if-not-branch.false) in
    let has : list_any (same y) l.set.items ≡ false = sym (l.invariant.1 y) ∙ ap (contains same l.known) (sym copy) ∙ new in
    let all = joined_sets same c.args.set.now.items c.args.more.now in (
      goes_last same all c.args.more.now l.set.items l.annotation-index l.invariant.0 y c.loop-annotation-test.true c.annotation-item.is c.push.new.self.items has pushed,
      one_more_annotation same g.met.A.Eq.laws.symm l.known c.insert.new.self l.set.items c.push.new.self.items y l.invariant.1
          (λ a. c.in_ok-insert.ensures.updates.0 a ∙ ap (λ k. cond (same k a) true (contains same l.known a)) copy) pushed,
    )

pub returns : goal.returns
returns g c =
    let l = c.loop-annotation in
    joined g.A.PartialEq.eq (joined_sets g.A.PartialEq.eq c.args.set.now.items c.args.more.now) c.args.more.now l.set.items l.annotation-index l.invariant.0 c.loop-annotation-test.false

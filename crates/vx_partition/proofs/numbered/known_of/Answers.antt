use Rattle.std.proofs.Common.{true, cond, ap, subst, ◌∙◌}
use Rattle.std.proofs.lemmas.List.{take_all}
use Rattle.std.specs.HashSet.{contains}
use Rattle.std.specs.List.{list_any}
use Rattle.vx_partition.specs.Entries.{HasAnnotations}
use Rattle.vx_partition.proofs.EntryLemmas.{one_more_at}
use Rattle.vx_partition.proofs.numbered.known_of.Goals as goal

pub loop-annotation-init : goal.loop-annotation-init
loop-annotation-init g c = λ a. ap (list_any (g.A.PartialEq.eq a)) c.new-known.ensures.empty

pub loop-annotation-preserved : goal.loop-annotation-preserved
loop-annotation-preserved g c =
    let same = g.A.PartialEq.eq in
    let l = c.loop-annotation in
    one_more_at same g.met.A.Eq.laws.symm l.known c.insert.new.self c.args.annotations.now l.annotation-index c.annotation-item.result c.loop-annotation-test.true c.annotation-item.is l.invariant
    (λ a. c.in_ok-insert.ensures.updates.0 a ∙ ap (λ y. cond (same y a) true (contains same l.known a)) (g.met.A.Annotation.clone_equals c.annotation-item.result c.in_ok-clone.field-0 c.in_ok-clone.ensures.cases))

pub returns : goal.returns
returns g c =
    let l = c.loop-annotation in
    subst (λ xs. HasAnnotations g.A.PartialEq.eq xs l.known) (take_all l.annotation-index c.args.annotations.now c.loop-annotation-test.false) l.invariant

use Rattle.std.proofs.Common.{◌++◌, Some, ap, arith, refl, sym, ◌∙◌}
use Rattle.std.proofs.lemmas.Option.{slice_get_within}
use Rattle.vx_passes.specs.Splitting.{with_part}
use Rattle.vx_partition.specs.Numbering.{known}
use Rattle.vx_partition.specs.Views.{shares_view}
use Rattle.vx_partition.proofs.EntryLemmas.{only_held}
use Rattle.vx_partition.proofs.TakeLemmas.{none_next, next_taken, children_taken, taken_part}
use Rattle.vx_partition.proofs.taking.TakingFoldSteps.down.Goals as goal

pub unreachable-requires : goal.unreachable-requires
unreachable-requires g c =
    let s = c.args.self.now in
    none_next (known s.found.now.numbers) s.next.items c.args.node.now (omega (arith, s.next.ok.0, c.in_default.ensures.cases.0)) c.requires.number

pub below-requires-clause-known : goal.below-requires-clause-known
below-requires-clause-known g c =
    let s = c.args.self.now in
    let e = c.args.node.now in
    let popped = next_taken g.A.PartialEq.eq g.A.Annotation.text s e c.pop.new.self.items c.in-Some.number c.in-Some.ensures.items c.requires in
    slice_get_within (known s.found.now.numbers) c.in-Some.number e popped.0

pub returns-in_ok-part-in-Some-only_annotation : goal.returns-in_ok-part-in-Some-only_annotation
returns-in_ok-part-in-Some-only_annotation g c =
    let s = c.args.self.now in
    let e = c.args.node.now in
    let popped = next_taken g.A.PartialEq.eq g.A.Annotation.text s e c.pop.new.self.items c.in-Some.number c.in-Some.ensures.items c.requires in
    let a = c.in-Some-only_annotation.annotation.now in
    let part = c.in_ok-part-in-Some-only_annotation in
    taken_part g.A.PartialEq.eq g.A.Annotation.text s e a part.part (record { found = s.found; next = c.pop.new.self; shares = c.take.new.self })
    (only_held s.found.now c.requires.sound c.in-Some.number e popped.0 (Some a) c.in-Some-only_annotation.ensures) refl popped.1 part.ensures.access
    (part.ensures.shares ∙ ap (λ d. with_part g.A.PartialEq.eq a d (shares_view s.shares)) c.in_ok-clone-in-Some-only_annotation.ensures.cases)

pub returns-in_ok-push_reversed-in-None : goal.returns-in_ok-push_reversed-in-None
returns-in_ok-push_reversed-in-None g c =
    let s = c.args.self.now in
    let e = c.args.node.now in
    let popped = next_taken g.A.PartialEq.eq g.A.Annotation.text s e c.pop.new.self.items c.in-Some.number c.in-Some.ensures.items c.requires in
    children_taken g.A.PartialEq.eq g.A.Annotation.text s e (record { found = s.found; next = c.push_reversed.new.list; shares = s.shares }) c.below.result.now c.requires.sound
    (sym (only_held s.found.now c.requires.sound c.in-Some.number e popped.0 _ c.in-None.ensures)) (c.below.ensures e popped.0) refl refl
    (c.in_ok-push_reversed-in-None.ensures ∙ ap (λ ns. c.below.result.now ++ ns) popped.1)

use Rattle.std.proofs.Common.{◌≡◌, ◌∙◌, subst}
use Rattle.std.specs.Prelude.{OnOk}
use Rattle.vx_expr.specs.Trees.{children_of}
use Rattle.vx_passes.specs.Annotating.{with_annotations}
use Rattle.vx_partition.specs.Entries.{numbered_entries}
use Rattle.vx_partition.proofs.EntryLemmas.{held_below}
use Rattle.vx_partition.proofs.annotating.visit_up.Goals as goal

pub returns-clause-entries : goal.returns-clause-entries
returns-clause-entries g c =
    let found = c.args.found.now in
    let e = c.args.expr.now in
    let below = held_below found c.requires.sound c.below.result.now (children_of e) (c.below.ensures e c.requires.number) c.as_slice.result.now
    (c.as_slice.ensures.value ∙ c.in_ok-below.ensures) in
    subst (λ ys. OnOk c.add.result (numbered_entries c.add.new.self ≡ with_annotations g.A.PartialEq.eq e ys (numbered_entries found))) below c.add.ensures.entries

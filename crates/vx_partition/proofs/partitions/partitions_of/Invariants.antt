use Rattle.std.proofs.Common.{◌≡◌, map, drop}
use Rattle.vx_dtype.specs.TypeViews.{type_view}
use Rattle.vx_passes.specs.Splitting.{partition_of}
use Rattle.vx_transform.specs.Rebuilds.{each}
use Rattle.vx_transform.proofs.RebuildLemmas.{before}
use Rattle.vx_partition.specs.Views.{partition_view, shares_view}
use Rattle.vx_partition.proofs.partitions.partitions_of.Given as goal

-- what was collected, and what is left
abbrev pub invariant-loop-place : goal.invariant-loop-place
invariant-loop-place g l =
    let rule = partition_of g.A.Annotation.text (type_view l.scope) in
    each rule (shares_view l.shares) ≡ before (map partition_view l.made.items) (each rule (drop l.place (shares_view l.shares)))

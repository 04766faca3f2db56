use Rattle.std.proofs.Common.{◌≡◌, ◌++◌, drop}
use Rattle.vx_passes.specs.Splitting.{part_names}
use Rattle.vx_partition.proofs.partitions.part_names.Given as goal

-- the names so far, and those that are left
abbrev pub invariant-loop-number : goal.invariant-loop-number
invariant-loop-number g l =
    let text = g.A.Annotation.text l.annotation in
    part_names text 0 l.parts ≡ l.names.items ++ part_names text l.number (drop l.number l.parts)

use Rattle.std.proofs.Common.{take}
use Rattle.vx_prepare.specs.Parts.{AreGiven}
use Rattle.vx_prepare.proofs.evaluating.evaluate_parts.Given as goal

-- what the parts so far give
abbrev pub invariant-loop-i : goal.invariant-loop-i
invariant-loop-i l =
    AreGiven l.len l.slots l.names l.columns (take l.i l.split.partition_annotations.items) (take l.i l.split.partitions.items) l.parts.items

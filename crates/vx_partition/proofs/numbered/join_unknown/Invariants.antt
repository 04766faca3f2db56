use Rattle.std.proofs.Common.{◌≡◌, drop}
use Rattle.vx_passes.specs.Annotating.{joined_sets}
use Rattle.vx_partition.specs.Entries.{HasAnnotations}
use Rattle.vx_partition.proofs.numbered.join_unknown.Given as goal

-- the set so far, joined with what is left, and what it has is known
abbrev pub invariant-loop-annotation : goal.invariant-loop-annotation
invariant-loop-annotation g l =
    (joined_sets g.A.PartialEq.eq l.fn.set.items l.more ≡ joined_sets g.A.PartialEq.eq l.set.items (drop l.annotation-index l.more))
    × HasAnnotations g.A.PartialEq.eq l.set.items l.known

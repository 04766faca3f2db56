use Rattle.std.proofs.Common.{take}
use Rattle.vx_partition.specs.Entries.{HasAnnotations}
use Rattle.vx_partition.proofs.numbered.known_of.Given as goal

-- the set has just the annotations so far
abbrev pub invariant-loop-annotation : goal.invariant-loop-annotation
invariant-loop-annotation g l = HasAnnotations g.A.PartialEq.eq (take l.annotation-index l.annotations) l.known

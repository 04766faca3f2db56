use Rattle.std.proofs.Common.{take}
use Rattle.vx_prune.specs.Standing.{NotesStanding}
use Rattle.vx_prune.proofs.name_counts.standing.Given as goal

-- what is noted of the names so far
abbrev pub invariant-loop-name : goal.invariant-loop-name
invariant-loop-name l = NotesStanding (take l.name-index l.fn.names) l.noted

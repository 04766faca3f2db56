use Rattle.std.proofs.Common.{take}
use Rattle.vx_partition.specs.Scopes.{HasJust}
use Rattle.vx_partition.proofs.scope_access.set_of.Given as goal

-- the set has just the names so far
abbrev pub invariant-loop-name : goal.invariant-loop-name
invariant-loop-name l = HasJust (take l.name-index l.names) l.set

use Rattle.std.proofs.Common.{◌≡◌, map, take}
use Rattle.vx_block_pruning.specs.Available.{name_of}
use Rattle.vx_block_pruning.proofs.joined_names.joined_names.Given as goal

-- the joined names of the statistics so far
abbrev pub invariant-loop-stat : goal.invariant-loop-stat
invariant-loop-stat l = l.names.items ≡ map name_of (take l.stat-index l.fn.stats)

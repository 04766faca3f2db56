use Rattle.std.proofs.Common.{◌≡◌, map, take}
use Rattle.vx_block_parts.specs.Parts.{stat_between}
use Rattle.vx_block_parts.proofs.part_zones.stats_between.Given as goal

-- the statistics so far
abbrev pub invariant-loop-i : goal.invariant-loop-i
invariant-loop-i l = l.within.items ≡ map (stat_between l.from l.up_to) (take l.i l.stats)

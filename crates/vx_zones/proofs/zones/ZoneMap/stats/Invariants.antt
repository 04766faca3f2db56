use Rattle.std.proofs.Common.{◌≡◌, map, take}
use Rattle.vx_zones.specs.ZoneViews.{stat_view}
use Rattle.vx_zones.proofs.zones.ZoneMap.stats.Given as goal

-- the statistics so far
abbrev pub invariant-loop-stat : goal.invariant-loop-stat
invariant-loop-stat l = map stat_view l.stats.items ≡ take l.stat-index l.stat-items

use Rattle.std.proofs.Common.{◌≡◌, take}
use Rattle.vx_zones.specs.ZoneViews.{statistic_paths}
use Rattle.vx_zones.proofs.zones.statistic_paths.Given as goal

-- the paths so far
abbrev pub invariant-loop-stat : goal.invariant-loop-stat
invariant-loop-stat l = l.paths ≡ statistic_paths (take l.stat-index l.fn.stats)

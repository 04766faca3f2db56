use Rattle.std.proofs.Common.{◌≡◌, map, take}
use Rattle.vx_zones.specs.Heads.{head_of}
use Rattle.vx_zones.specs.ZoneViews.{head_view, stat_view}
use Rattle.vx_zones.proofs.heads.heads_of.Given as goal

-- the heads so far
abbrev pub invariant-loop-stat : goal.invariant-loop-stat
invariant-loop-stat l = map head_view l.heads.items ≡ map head_of (map stat_view (take l.stat-index l.fn.stats))

use Rattle.std.proofs.Common.{◌≡◌, map, take}
use Rattle.vx_zones.specs.Heads.{head_of}
use Rattle.vx_zones.specs.ZoneViews.{head_view}
use Rattle.vx_zones.proofs.heads.column_heads.Given as goal

-- the heads so far
abbrev pub invariant-loop-stat : goal.invariant-loop-stat
invariant-loop-stat l = map head_view l.heads.items ≡ map head_of (take l.stat-index l.fn.stats)

use Rattle.std.proofs.Common.{◌≡◌, map, take}
use Rattle.vx_zones.specs.ZoneViews.{head_view}
use Rattle.vx_request.specs.ReadStatistics.{text_head}
use Rattle.vx_request.specs.RequestViews.{stat_view}
use Rattle.vx_request.proofs.stats.heads_of.Given as goal

-- the heads so far
abbrev pub invariant-loop-i : goal.invariant-loop-i
invariant-loop-i l = map head_view l.heads.items ≡ map text_head (map stat_view (take l.i l.stats))

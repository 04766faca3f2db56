-- the statistics so far
use Rattle.std.proofs.Common.{◌≡◌, map, take}
use Rattle.vx_zones.specs.ZoneViews.{stat_view}
use Rattle.vx_folder.specs.FolderAnswers.{growing_view}
use Rattle.vx_folder.proofs.gathering.growing_stats.Given as goal

abbrev pub invariant-loop-i : goal.invariant-loop-i
invariant-loop-i l = map growing_view l.growing.items ≡ map stat_view (take l.i l.stats)

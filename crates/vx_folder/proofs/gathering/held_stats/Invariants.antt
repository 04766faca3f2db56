-- the statistics so far
use Rattle.std.proofs.Common.{◌≡◌, map}
use Rattle.vx_zones.specs.ZoneViews.{stat_view}
use Rattle.vx_folder.specs.FolderAnswers.{growing_view}
use Rattle.vx_folder.proofs.gathering.held_stats.Given as goal

abbrev pub invariant-loop-stat : goal.invariant-loop-stat
invariant-loop-stat l = map stat_view l.stats.items ≡ map growing_view l.yielded

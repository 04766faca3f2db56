-- the values of the statistics so far stand behind those before
use Rattle.std.proofs.Common.{◌≡◌, map, length}
use Rattle.vx_zones.specs.ZoneViews.{stat_view}
use Rattle.vx_folder.specs.FolderAnswers.{growing_view}
use Rattle.vx_folder.proofs.StatLemmas.{first_before}
use Rattle.vx_folder.proofs.gathering.add_stats.Given as goal

abbrev pub invariant-loop-i : goal.invariant-loop-i
invariant-loop-i l =
    (length l.growing.items ≡ length l.stats)
    × (map growing_view l.growing.items ≡ first_before l.i (map growing_view l.fn.growing.items) (map stat_view l.stats))

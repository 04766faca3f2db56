-- the statistics so far are of the same paths and kinds, and as many are left
use Rattle.std.proofs.Common.{◌≡◌, map, take, length}
use Rattle.vx_laws_stats.specs.BuiltLaws.{path_and_stat}
use Rattle.vx_folder.specs.FolderAnswers.{growing_view}
use Rattle.vx_folder.proofs.gathering.are_alike.Given as goal

abbrev pub invariant-loop-i : goal.invariant-loop-i
invariant-loop-i l =
    (length l.growing ≡ length l.stats)
    × (map path_and_stat (take l.i l.stats) ≡ map path_and_stat (map growing_view (take l.i l.growing)))

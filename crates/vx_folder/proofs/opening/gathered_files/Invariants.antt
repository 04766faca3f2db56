-- the files so far are gathered
use Rattle.std.proofs.Common.{map, take}
use Rattle.std.specs.String.{string_bytes}
use Rattle.vx_laws_shell.specs.Paths.{WhereEachKept}
use Rattle.vx_laws_shell.specs.FolderContents.{kept_in}
use Rattle.vx_folder.specs.PathViews.{kept_by}
use Rattle.vx_folder.specs.FolderAnswers.{gathered_zones, AreGathered, IsLawful}
use Rattle.vx_folder.proofs.opening.gathered_files.Given as goal

abbrev pub invariant-loop-i : goal.invariant-loop-i
invariant-loop-i g l =
    IsLawful l.gathered l.i
    × WhereEachKept (kept_in (kept_by (g.F.Files.kept l.files)) l.path (map string_bytes (take l.i l.names)))
    (AreGathered (gathered_zones l.gathered) l.gathered.begins.items)

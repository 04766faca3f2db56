-- The files so far stand before those of the tables that are left, which are tables, and have their files where all have.
use Rattle.std.proofs.Common.{map, drop}
use Rattle.std.specs.List.{AllByRecursion}
use Rattle.vx_request.specs.RequestViews.{told_view}
use Rattle.vx_laws_writing.specs.Writing.{HasItsFile}
use Rattle.vx_writing.specs.Making.{AreTables}
use Rattle.vx_writing.proofs.PartFiles.{StandBefore}
use Rattle.vx_writing.proofs.making.files_of.Given as goal

abbrev pub invariant-loop-table : goal.invariant-loop-table
invariant-loop-table l =
    StandBefore l.fn.tables l.table-index l.files.items × AreTables (map told_view (drop l.table-index l.fn.tables))
    × (AllByRecursion HasItsFile (map told_view l.fn.tables) → AllByRecursion HasItsFile (map told_view (drop l.table-index l.fn.tables)))

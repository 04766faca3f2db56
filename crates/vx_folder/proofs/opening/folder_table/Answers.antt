use Rattle.std.proofs.Common.{ap, map}
use Rattle.std.specs.String.{string_bytes}
use Rattle.vx_folder.specs.FolderTables.{table_view}
use Rattle.vx_folder.specs.PathViews.{paths_by}
use Rattle.vx_folder.proofs.OpenLemmas.{folder_table_is}
use Rattle.vx_folder.proofs.opening.folder_table.Goals as goal

pub returns-clause-table : goal.returns-clause-table
returns-clause-table g c =
    folder_table_is (paths_by (g.F.Files.kept c.args.files.now) (g.F.Files.listed c.args.files.now)) c.args.path.now (map string_bytes c.in_ok-names.names.items)
    (table_view c.in_ok-table.table) c.in_ok-names.ensures.listed (ap (map string_bytes) c.in_ok-table.ensures.names) c.in_ok-table.ensures.few
    c.in_ok-table.ensures.gathered

use Rattle.vx_request.specs.RequestViews.{told_view}
use Rattle.vx_laws_shell.proofs.ToldTables.{told_tables_are_tables}
use Rattle.vx_write_cases.proofs.parts.files_of_text.Goals as goal

pub files_of_table-requires-clause-table : goal.files_of_table-requires-clause-table
files_of_table-requires-clause-table c = told_tables_are_tables _ (told_view c.in-Ok.told) c.in-Ok.ensures

use Rattle.vx_laws_shell.proofs.ToldTables.{told_tables_are_tables}
use Rattle.vx_laws_shell.proofs.laws.told_tables_are_tables.Goals as goal

pub returns : goal.returns
returns c = told_tables_are_tables

use Rattle.vx_laws_statements.proofs.NamedTables.{tables-named}
use Rattle.vx_laws_statements.proofs.table_names.tables_are_named.Goals as goal

pub returns : goal.returns
returns c = tables-named

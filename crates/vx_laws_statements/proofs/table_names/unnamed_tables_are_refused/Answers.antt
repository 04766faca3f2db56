use Rattle.vx_laws_statements.proofs.NamedTables.{unnamed-refused}
use Rattle.vx_laws_statements.proofs.table_names.unnamed_tables_are_refused.Goals as goal

pub returns : goal.returns
returns c = unnamed-refused

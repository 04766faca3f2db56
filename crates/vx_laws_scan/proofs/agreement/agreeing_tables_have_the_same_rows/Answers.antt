use Rattle.vx_laws_scan.proofs.Columns.{agreeing_tables_rows}
use Rattle.vx_laws_scan.proofs.agreement.agreeing_tables_have_the_same_rows.Goals as goal

pub returns : goal.returns
returns c = agreeing_tables_rows

use Rattle.vx_laws_scan.proofs.Columns.{agreeing_rows_break}
use Rattle.vx_laws_scan.proofs.agreement.agreeing_rows_break_the_same.Goals as goal

pub returns : goal.returns
returns c = agreeing_rows_break

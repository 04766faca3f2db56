use Rattle.vx_laws_scan.proofs.Phases.{quiet_rows}
use Rattle.vx_laws_scan.proofs.quiet.quiet_rows_hold_no_fault.Goals as goal

pub returns : goal.returns
returns c = quiet_rows

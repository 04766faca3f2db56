use Rattle.vx_laws.proofs.Faultless.{no_break_no_fault}
use Rattle.vx_laws.proofs.faults.no_break_no_fault.Goals as goal

pub returns : goal.returns
returns c = no_break_no_fault

use Rattle.vx_laws.proofs.Unbroken.{no_node_breaks_no_fault}
use Rattle.vx_laws.proofs.faults.no_node_breaks_no_fault.Goals as goal

pub returns : goal.returns
returns c = no_node_breaks_no_fault

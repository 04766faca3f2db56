use Rattle.vx_laws.proofs.AnySlots.{faults_are_plain}
use Rattle.vx_laws.proofs.values.faults_are_plain.Goals as goal

pub returns : goal.returns
returns c = faults_are_plain

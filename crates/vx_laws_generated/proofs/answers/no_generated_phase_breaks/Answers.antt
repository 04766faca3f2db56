use Rattle.vx_laws_generated.proofs.Quiet.{no_generated_phase_breaks}
use Rattle.vx_laws_generated.proofs.answers.no_generated_phase_breaks.Goals as goal

pub returns : goal.returns
returns c = no_generated_phase_breaks

use Rattle.vx_laws_generated.proofs.Skipped.{generated_scans_skip}
use Rattle.vx_laws_generated.proofs.answers.generated_scans_skip.Goals as goal

pub returns : goal.returns
returns c = generated_scans_skip

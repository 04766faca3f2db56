use Rattle.vx_laws_generated.proofs.Answered.{generated_scans_answer_ids}
use Rattle.vx_laws_generated.proofs.answers.generated_scans_answer_ids.Goals as goal

pub returns : goal.returns
returns c = generated_scans_answer_ids

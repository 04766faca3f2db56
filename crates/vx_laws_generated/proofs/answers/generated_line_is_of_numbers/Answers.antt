use Rattle.vx_laws_generated.proofs.Summed.{generated_line_is_of_numbers}
use Rattle.vx_laws_generated.proofs.answers.generated_line_is_of_numbers.Goals as goal

pub returns : goal.returns
returns c = generated_line_is_of_numbers

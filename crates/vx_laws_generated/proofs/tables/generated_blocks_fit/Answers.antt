use Rattle.vx_laws_generated.proofs.Blocks.{generated_blocks_fit}
use Rattle.vx_laws_generated.proofs.tables.generated_blocks_fit.Goals as goal

pub returns : goal.returns
returns c = generated_blocks_fit

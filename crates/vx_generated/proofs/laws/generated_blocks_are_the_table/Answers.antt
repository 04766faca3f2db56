use Rattle.vx_generated.proofs.TableLemmas.{generated_blocks_are_the_table}
use Rattle.vx_generated.proofs.laws.generated_blocks_are_the_table.Goals as goal

pub returns : goal.returns
returns c = generated_blocks_are_the_table

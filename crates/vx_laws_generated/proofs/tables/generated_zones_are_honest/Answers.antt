use Rattle.vx_laws_generated.proofs.HonestBounds.{generated_zones_are_honest}
use Rattle.vx_laws_generated.proofs.tables.generated_zones_are_honest.Goals as goal

pub returns : goal.returns
returns c = generated_zones_are_honest

use Rattle.vx_laws_generated.proofs.Lawful.{generated_zones_are_lawful}
use Rattle.vx_laws_generated.proofs.tables.generated_zones_are_lawful.Goals as goal

pub returns : goal.returns
returns c = generated_zones_are_lawful

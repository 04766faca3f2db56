use Rattle.vx_laws_parts.proofs.Outcomes.{preserved_meaning}
use Rattle.vx_laws_parts.proofs.preserving.preserves_meaning.Goals as goal

pub returns : goal.returns
returns c = preserved_meaning

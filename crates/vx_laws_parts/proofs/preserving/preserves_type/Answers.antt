use Rattle.vx_laws_parts.proofs.Outcomes.{preserved_type}
use Rattle.vx_laws_parts.proofs.preserving.preserves_type.Goals as goal

pub returns : goal.returns
returns c = preserved_type

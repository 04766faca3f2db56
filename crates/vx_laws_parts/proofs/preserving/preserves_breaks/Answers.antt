use Rattle.vx_laws_parts.proofs.Outcomes.{preserved_breaks}
use Rattle.vx_laws_parts.proofs.preserving.preserves_breaks.Goals as goal

pub returns : goal.returns
returns c = preserved_breaks

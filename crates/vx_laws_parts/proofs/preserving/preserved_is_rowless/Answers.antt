use Rattle.vx_laws_parts.proofs.Outcomes.{preserved_rowless}
use Rattle.vx_laws_parts.proofs.preserving.preserved_is_rowless.Goals as goal

pub returns : goal.returns
returns c = preserved_rowless

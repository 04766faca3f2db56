use Rattle.vx_kinds.proofs.MetadataLemmas.{spelled_is_not_refused}
use Rattle.vx_kinds.proofs.laws.metadata_is_not_refused.Goals as goal

pub returns : goal.returns
returns c = spelled_is_not_refused

use Rattle.vx_query.proofs.EndLemmas.{without_any}
use Rattle.vx_query.proofs.causes.want_of_memory_is_told.Goals as goal

pub returns : goal.returns
returns c = without_any

use Rattle.vx_query.proofs.QueryLemmas.{was_named}
use Rattle.vx_query.proofs.query_causes.text_is_named_exactly.Goals as goal

pub returns : goal.returns
returns c = was_named

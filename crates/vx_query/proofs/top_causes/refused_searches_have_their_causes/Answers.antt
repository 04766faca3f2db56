use Rattle.vx_query.proofs.TopCauseLemmas.{unfound}
use Rattle.vx_query.proofs.top_causes.refused_searches_have_their_causes.Goals as goal

pub returns : goal.returns
returns c = unfound

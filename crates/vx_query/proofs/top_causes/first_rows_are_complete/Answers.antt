use Rattle.vx_query.proofs.TopCauseLemmas.{found_whole}
use Rattle.vx_query.proofs.top_causes.first_rows_are_complete.Goals as goal

pub returns : goal.returns
returns c = found_whole c.wire_laws.ensures

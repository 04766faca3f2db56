use Rattle.vx_query.proofs.TopCauseLemmas.{found_rows}
use Rattle.vx_query.proofs.top_causes.searches_find_typed_rows.Goals as goal

pub returns : goal.returns
returns c = found_rows

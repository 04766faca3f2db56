use Rattle.vx_query.proofs.ExpressionCauseLemmas.{boolean_row}
use Rattle.vx_query.proofs.refusal_causes.filter_not_bool_exactly.Goals as goal

pub returns : goal.returns
returns c = boolean_row c.wire_laws.ensures

use Rattle.vx_query.proofs.ExpressionCauseLemmas.{typing_row}
use Rattle.vx_query.proofs.refusal_causes.typing_refusals_exactly.Goals as goal

pub returns : goal.returns
returns c = typing_row c.wire_laws.ensures

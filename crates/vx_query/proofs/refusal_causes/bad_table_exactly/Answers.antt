use Rattle.vx_request.specs.declared.errors.RequestError.TheVariants.{BadTable}
use Rattle.vx_query.proofs.ExpressionCauseLemmas.{request_row}
use Rattle.vx_query.proofs.refusal_causes.bad_table_exactly.Goals as goal

pub returns : goal.returns
returns c = λ refusal. request_row (BadTable refusal)

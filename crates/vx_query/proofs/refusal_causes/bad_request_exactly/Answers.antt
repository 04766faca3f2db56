use Rattle.vx_request.specs.declared.errors.RequestError.TheVariants.{BadRequest}
use Rattle.vx_query.proofs.ExpressionCauseLemmas.{request_row}
use Rattle.vx_query.proofs.refusal_causes.bad_request_exactly.Goals as goal

pub returns : goal.returns
returns c = λ place. request_row (BadRequest place)

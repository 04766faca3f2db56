use Rattle.vx_request.specs.declared.errors.RequestError.TheVariants.{BadJson}
use Rattle.vx_query.proofs.ExpressionCauseLemmas.{request_row}
use Rattle.vx_query.proofs.refusal_causes.bad_json_exactly.Goals as goal

pub returns : goal.returns
returns c = request_row BadJson

use Rattle.vx_request.specs.declared.errors.RequestError.TheVariants.{InputTooLong}
use Rattle.vx_query.proofs.ExpressionCauseLemmas.{request_row}
use Rattle.vx_query.proofs.refusal_causes.input_too_long_exactly.Goals as goal

pub returns : goal.returns
returns c = request_row InputTooLong

use Rattle.vx_request.specs.declared.errors.RequestError.TheVariants.{BadHex}
use Rattle.vx_query.proofs.ExpressionCauseLemmas.{request_row}
use Rattle.vx_query.proofs.WordLemmas.{undigited}
use Rattle.vx_query.proofs.refusal_causes.bad_hex_exactly.Goals as goal

pub returns-clause-request : goal.returns-clause-request
returns-clause-request c = λ side. request_row (BadHex side)

pub returns-clause-word : goal.returns-clause-word
returns-clause-word c = undigited

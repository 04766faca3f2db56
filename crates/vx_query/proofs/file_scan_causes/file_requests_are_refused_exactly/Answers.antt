use Rattle.vx_request.specs.declared.errors.FileRequestError.TheVariants.{InputTooLong, BadJson, BadRequest, BadHex}
use Rattle.vx_query.proofs.FileScanCauseLemmas.{misasked_row}
use Rattle.vx_query.proofs.file_scan_causes.file_requests_are_refused_exactly.Goals as goal

pub returns-clause-too_long : goal.returns-clause-too_long
returns-clause-too_long c = misasked_row InputTooLong

pub returns-clause-no_json : goal.returns-clause-no_json
returns-clause-no_json c = misasked_row BadJson

pub returns-clause-misformed : goal.returns-clause-misformed
returns-clause-misformed c = λ place. misasked_row (BadRequest place)

pub returns-clause-bad_hex : goal.returns-clause-bad_hex
returns-clause-bad_hex c = λ which. misasked_row (BadHex which)

-- How a request of a block file is seen, and what is answered to bytes.
use Rattle.std.specs.Prelude.{◌≡◌, Result, Ok, Err}
use Rattle.vx_request.specs.FileRequests.{RequestedFile}
use Rattle.vx_request.specs.declared.file_requests.FileRequest.{FileRequest}
use Rattle.vx_request.specs.declared.errors.FileRequestError.{FileRequestError}
use Rattle.vx_request.specs.declared.errors.FileRequestError.TheVariants.{NoMemory}

-- what this one holds
abbrev pub file_view : FileRequest → RequestedFile
file_view a = record { file = a.file.items; filter = a.filter.items; projection = a.projection.items }

-- the answer is the one that is told; want of memory may be answered at any time
abbrev pub FileRequestAnswers : Result RequestedFile FileRequestError → Result FileRequest FileRequestError → Type 0
FileRequestAnswers told (Ok x) = told ≡ Ok (file_view x)
FileRequestAnswers told (Err NoMemory) = Unit {0}
FileRequestAnswers told (Err e) = told ≡ Err e

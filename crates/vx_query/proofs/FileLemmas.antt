-- What answers an input by the block file of its table.
use Rattle.std.proofs.Common.{◌≡◌, sym, subst, Result, Ok, Err}
use Rattle.std.specs.Result.{IsErrAnd}
use Rattle.std.specs.declared.string.String.{String}
use Rattle.std.specs.declared.alloc.Global.{Global}
use Rattle.vx_dtype.specs.Types.{Bytes}
use Rattle.vx_request.specs.Requests.{RequestedScan, request_of}
use Rattle.vx_request.specs.RequestViews.{RequestAnswers, scan_view}
use Rattle.vx_request.specs.declared.errors.RequestError.{RequestError}
use Rattle.vx_request.specs.declared.errors.RequestError.TheVariants as requests
use Rattle.vx_query.specs.RefusalViews.{IsFileUnanswered, IsWithoutFile, request_refusal}
use Rattle.vx_query.specs.TextViews.{FilesInput}
use Rattle.vx_query.specs.declared.refusals.Refusal.{Refusal}
use Rattle.vx_query.specs.declared.refusals.Refusal.TheVariants.{NoMemory, ReadFault, InputTooLong, BadJson, BadRequest, BadHex, BadTable, BadHexText, Scan, Query, NotSerializable, LongPart, UnknownKey, BadKey, LongTable, FileScan}

-- an answer that is a refusal
pub file_err : (input : Bytes) (r : Refusal) (result : Result (String Global) Refusal) → IsErrAnd result (λ x. x ≡ r) → IsFileUnanswered input r
    → FilesInput input result
file_err input r (Ok x) h k = absurd h
file_err input r (Err x) h k = subst (IsFileUnanswered input) (sym h) k

-- an input that is no request
pub unasked_file : (input : Bytes) (e : RequestError) → RequestAnswers scan_view (request_of input) (Err e) → IsFileUnanswered input (request_refusal e)
unasked_file input requests.NoMemory told = tt
unasked_file input requests.InputTooLong told = told
unasked_file input requests.BadJson told = told
unasked_file input (requests.BadRequest place) told = told
unasked_file input (requests.BadHex side) told = told
unasked_file input (requests.BadTable refusal) told = told

-- one whose table has no file
pub unfiled_table : (input : Bytes) (a : RequestedScan) (r : Refusal) → request_of input ≡ Ok a → IsWithoutFile a.zones a.blocks r → IsFileUnanswered input r
unfiled_table input a NoMemory found none = tt
unfiled_table input a ReadFault found none = absurd none
unfiled_table input a InputTooLong found none = absurd none
unfiled_table input a BadJson found none = absurd none
unfiled_table input a (BadRequest place) found none = absurd none
unfiled_table input a (BadHex side) found none = absurd none
unfiled_table input a (BadTable refusal) found none = absurd none
unfiled_table input a BadHexText found none = absurd none
unfiled_table input a (Scan e) found none = absurd none
unfiled_table input a (Query e) found none = absurd none
unfiled_table input a NotSerializable found none = absurd none
unfiled_table input a LongPart found none = absurd none
unfiled_table input a UnknownKey found none = absurd none
unfiled_table input a BadKey found none = absurd none
unfiled_table input a (FileScan e) found none = absurd none
unfiled_table input a LongTable found long = record { asked = a; held = found; long = long }

-- What the exit status of a run tells whose arguments ask the scan of a block file, and why an input is no request of one.
use Rattle.std.specs.Prelude.{◌≡◌, Option, Some, None, Ok, Err}
use Rattle.serde_json.specs.Data.{Data}
use Rattle.vx_dtype.specs.Types.{Bytes}
use Rattle.vx_expr.specs.Trees.{Tree}
use Rattle.vx_semantics.specs.Breaks.{Cause}
use Rattle.vx_io.specs.Ends.{Added}
use Rattle.vx_laws_file.specs.FileForms.{FileContent}
use Rattle.vx_scan.specs.Stores.{StoreSeen}
use Rattle.vx_scan.specs.declared.errors.ScanError.{ScanError}
use Rattle.vx_request.specs.Requests.{hex_bytes}
use Rattle.vx_request.specs.FileRequests.{FileRequestText, RequestedFile, file_text_in}
use Rattle.vx_request.specs.declared.errors.FilePlace.{FilePlace}
use Rattle.vx_request.specs.declared.errors.FileText.{FileText}
use Rattle.vx_request.specs.declared.errors.FileText.TheVariants.{File, Filter, Projection}
use Rattle.vx_request.specs.declared.errors.FileRequestError.{FileRequestError}
use Rattle.vx_request.specs.declared.errors.FileRequestError.TheVariants.{NoMemory, InputTooLong, BadJson, BadRequest, BadHex}
use Rattle.vx_file_query.specs.FileEndings.{HoldsFileScan, HoldsFileRefused, HoldsBadFile, HoldsFileBreak, IsFileWhole}
use Rattle.vx_file_query.specs.declared.errors.FilePart.{FilePart}
use Rattle.vx_query.specs.Refusals.{file_request_refusal_name, bad_file_name, scan_refusal_name, break_name, refusal_line}
use Rattle.vx_query.specs.Running.{End, IsTaken, held_scan, scan_report}
use Rattle.vx_query.specs.RequestCauses.{IsTooLong, IsTextOf, IsNoJson}

-- an input whose value isn't of the form of a request of a block file, first at this place
abbrev pub IsMisformedFile : FilePlace → Bytes → Type 0
IsMisformedFile place input = (value : Data) × IsTextOf input value × (file_text_in value ≡ Err (BadRequest place))

-- one that has this form: the request as it stands
abbrev pub IsFormedFile : Bytes → FileRequestText → Type 0
IsFormedFile input r = (value : Data) × IsTextOf input value × (file_text_in value ≡ Ok r)

-- a text is hexadecimal
abbrev pub HasDigitsOf : Bytes → Type 0
HasDigitsOf text = (bytes : Bytes) × (hex_bytes text ≡ Some bytes)

-- one of its texts is no hexadecimal text, the first one that is none
abbrev pub HasBadFileDigits : FileText → FileRequestText → Type 0
HasBadFileDigits File r = hex_bytes r.file ≡ None
HasBadFileDigits Filter r = HasDigitsOf r.file × (hex_bytes r.filter ≡ None)
HasBadFileDigits Projection r = HasDigitsOf r.file × (HasDigitsOf r.filter × (hex_bytes r.projection ≡ None))

abbrev pub HasBadFileHex : FileText → Bytes → Type 0
HasBadFileHex which input = (r : FileRequestText) × IsFormedFile input r × HasBadFileDigits which r

-- why an input is no such request
abbrev pub IsNoFileRequest : FileRequestError → Bytes → Type 0
IsNoFileRequest NoMemory input = ⊥
IsNoFileRequest InputTooLong input = IsTooLong input
IsNoFileRequest BadJson input = IsNoJson input
IsNoFileRequest (BadRequest place) input = IsMisformedFile place input
IsNoFileRequest (BadHex which) input = HasBadFileHex which input

-- a report was written whole: of the scan that the input asks of a block file, of which no column that is read is damaged, and no phase breaks; no store is
-- held
pub record IsFileReported (in_before in_after out_before out_after : End) (used : Option StoreSeen) : Type 0 where
  pub input : Bytes
  pub asked : RequestedFile
  pub content : FileContent
  pub filter : Tree
  pub projection : Tree
  pub taken : IsTaken in_before in_after input
  pub asks : HoldsFileScan input asked content filter projection
  pub whole : IsFileWhole content filter projection
  pub written : Added out_before.bytes out_after.bytes (scan_report (held_scan asked content) filter projection)
  pub unheld : used ≡ None

-- an input was taken that is no request of a block file, and the line of its refusal was written; no store is held
pub record IsMisasked (in_before in_after out_before out_after : End) (used : Option StoreSeen) : Type 0 where
  pub input : Bytes
  pub refusal : FileRequestError
  pub taken : IsTaken in_before in_after input
  pub cause : IsNoFileRequest refusal input
  pub written : Added out_before.bytes out_after.bytes (refusal_line (file_request_refusal_name refusal))
  pub unheld : used ≡ None

-- one was taken that asks the scan of a block file of which a part isn't as it has to be
pub record IsMisfiled (in_before in_after out_before out_after : End) (used : Option StoreSeen) : Type 0 where
  pub input : Bytes
  pub part : FilePart
  pub taken : IsTaken in_before in_after input
  pub cause : HoldsBadFile part input
  pub written : Added out_before.bytes out_after.bytes (refusal_line (bad_file_name part))
  pub unheld : used ≡ None

-- one was taken that asks it by expressions that are refused
pub record IsUnscannedFile (in_before in_after out_before out_after : End) (used : Option StoreSeen) : Type 0 where
  pub input : Bytes
  pub refusal : ScanError
  pub taken : IsTaken in_before in_after input
  pub cause : HoldsFileRefused refusal input
  pub written : Added out_before.bytes out_after.bytes (refusal_line (scan_refusal_name refusal))
  pub unheld : used ≡ None

-- an input was taken whose scan of a block file breaks by this cause, before a damaged column is read
abbrev pub HasFileBroken : Cause → End → End → Type 0
HasFileBroken cause in_before in_after = (input : Bytes) × IsTaken in_before in_after input × HoldsFileBreak cause input

-- and the line of the cause was written; no store is held
pub record IsStoppedFile (in_before in_after out_before out_after : End) (used : Option StoreSeen) : Type 0 where
  pub cause : Cause
  pub broken : HasFileBroken cause in_before in_after
  pub written : Added out_before.bytes out_after.bytes (refusal_line (break_name cause))
  pub unheld : used ≡ None

-- an end that tells its bytes, which ask the scan of a filter and a projection of the block file that holds this
pub record TellsFileScan (before : End) : Type 0 where
  pub input : Bytes
  pub told : before.bytes ≡ Some input
  pub asked : RequestedFile
  pub content : FileContent
  pub filter : Tree
  pub projection : Tree
  pub asks : HoldsFileScan input asked content filter projection

-- the report of this scan
abbrev pub told_file_report : {before : End} → TellsFileScan before → Bytes
told_file_report told = scan_report (held_scan told.asked told.content) told.filter told.projection

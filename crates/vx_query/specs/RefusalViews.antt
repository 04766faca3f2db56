-- For the checker: no public clause cites this. The exit statuses and lines of refusals.
use Rattle.std.specs.Prelude.{◌≡◌, ℕ, codes, List, None, Err}
use Rattle.vx_dtype.specs.Types.{Bytes}
use Rattle.vx_expr.specs.Trees.{Tree}
use Rattle.vx_column.specs.Columns.{Column}
use Rattle.vx_semantics.specs.Tables.{Zones}
use Rattle.vx_laws_file.specs.Lengths.{IsShortTable}
use Rattle.vx_scan.specs.ErrorKinds.{ErrorKind, of_memory, of_break, kind_of}
use Rattle.vx_scan.specs.declared.errors.ScanError.{ScanError}
use Rattle.vx_request.specs.Requests.{RequestedScan, request_of, hex_bytes}
use Rattle.vx_request.specs.declared.errors.RequestError.{RequestError}
use Rattle.vx_request.specs.declared.errors.RequestError.TheVariants as requests
use Rattle.vx_io.specs.declared.reading.InputError.{InputError}
use Rattle.vx_io.specs.declared.reading.InputError.TheVariants as inputs
use Rattle.vx_text.specs.Reading.{reading_of}
use Rattle.vx_text.specs.declared.errors.TextError.{TextError}
use Rattle.vx_text.specs.declared.errors.TextError.TheVariants as texts
use Rattle.vx_file_query.specs.FileAnswers.{IsFileUnreported}
use Rattle.vx_file_query.specs.declared.errors.FileScanError.{FileScanError}
use Rattle.vx_file_query.specs.declared.errors.FileScanError.TheVariants as files
use Rattle.vx_query.specs.Refusals.{request_refusal_name, scan_refusal_name, text_refusal_name, key_refusal_name, refusal_line}
use Rattle.vx_query.specs.Refusals.{file_request_refusal_name, bad_file_name}
use Rattle.vx_query.specs.TopWords.{unknown_key, bad_key}
use Rattle.vx_query.specs.Running.{HoldsRefused, HoldsLongTable, IsScanRefused, WordIsRefused, Names, IsShallow, IsOverlong}
use Rattle.vx_query.specs.declared.refusals.Refusal.{Refusal}
use Rattle.vx_query.specs.declared.refusals.Refusal.TheVariants.{NoMemory, ReadFault, InputTooLong, BadJson, BadRequest, BadHex, BadTable, BadHexText, Scan}
use Rattle.vx_query.specs.declared.refusals.Refusal.TheVariants.{Query, NotSerializable, LongPart, UnknownKey, BadKey, LongTable, FileScan}

-- the exit status of the scan of a block file without a report, and what is told of it
abbrev pub stop_status : ErrorKind → ℕ
stop_status (of_break cause) = 5
stop_status _ = 4

abbrev pub file_error_status : FileScanError → ℕ
file_error_status files.NoMemory = 8
file_error_status (files.Request e) = 3
file_error_status (files.BadFile part) = 3
file_error_status (files.Scan e) = stop_status (kind_of e)

abbrev pub file_error_name : FileScanError → Bytes
file_error_name files.NoMemory = codes "NoMemory"
file_error_name (files.Request e) = file_request_refusal_name e
file_error_name (files.BadFile part) = bad_file_name part
file_error_name (files.Scan e) = scan_refusal_name e

-- the exit status of a refusal
abbrev pub refusal_status : Refusal → ℕ
refusal_status NoMemory = 8
refusal_status ReadFault = 6
refusal_status (Scan e) = 4
refusal_status (Query e) = 4
refusal_status NotSerializable = 4
refusal_status LongPart = 4
refusal_status UnknownKey = 4
refusal_status BadKey = 4
refusal_status (FileScan e) = file_error_status e
refusal_status _ = 3

-- what is told of a refusal
abbrev pub refusal_name : Refusal → Bytes
refusal_name NoMemory = codes "NoMemory"
refusal_name ReadFault = codes "ReadFault"
refusal_name InputTooLong = codes "InputTooLong"
refusal_name BadJson = codes "BadJson"
refusal_name (BadRequest place) = request_refusal_name (requests.BadRequest place)
refusal_name (BadHex side) = request_refusal_name (requests.BadHex side)
refusal_name (BadTable refusal) = request_refusal_name (requests.BadTable refusal)
refusal_name BadHexText = codes "BadHex text"
refusal_name (Scan e) = scan_refusal_name e
refusal_name (Query e) = text_refusal_name e
refusal_name NotSerializable = codes "NotSerializable"
refusal_name LongPart = codes "TooLong"
refusal_name UnknownKey = key_refusal_name unknown_key
refusal_name BadKey = key_refusal_name bad_key
refusal_name LongTable = codes "TooLong"
refusal_name (FileScan e) = file_error_name e

-- the line of a refusal
abbrev pub refusal_text : Refusal → Bytes
refusal_text r = refusal_line (refusal_name r)

-- the refusal of an input that isn't read
abbrev pub input_refusal : InputError → Refusal
input_refusal inputs.NoMemory = NoMemory
input_refusal inputs.ReadFault = ReadFault

-- the refusal of a request that is refused
abbrev pub request_refusal : RequestError → Refusal
request_refusal requests.NoMemory = NoMemory
request_refusal requests.InputTooLong = InputTooLong
request_refusal requests.BadJson = BadJson
request_refusal (requests.BadRequest place) = BadRequest place
request_refusal (requests.BadHex side) = BadHex side
request_refusal (requests.BadTable refusal) = BadTable refusal

-- an input is answered by this refusal: want of memory at any time, a fault of the source never, else what the input holds is told
abbrev pub IsUnanswered : Bytes → Refusal → Type 0
IsUnanswered input NoMemory = Unit {0}
IsUnanswered input ReadFault = ⊥
IsUnanswered input InputTooLong = request_of input ≡ Err requests.InputTooLong
IsUnanswered input BadJson = request_of input ≡ Err requests.BadJson
IsUnanswered input (BadRequest place) = request_of input ≡ Err (requests.BadRequest place)
IsUnanswered input (BadHex side) = request_of input ≡ Err (requests.BadHex side)
IsUnanswered input (BadTable refusal) = request_of input ≡ Err (requests.BadTable refusal)
IsUnanswered input BadHexText = ⊥
IsUnanswered input (Scan e) = HoldsRefused input e
IsUnanswered input (Query e) = ⊥
IsUnanswered input NotSerializable = ⊥
IsUnanswered input LongPart = ⊥
IsUnanswered input UnknownKey = ⊥
IsUnanswered input BadKey = ⊥
IsUnanswered input LongTable = ⊥
IsUnanswered input (FileScan e) = ⊥

-- an input whose table's block file is asked is answered by this refusal: a table that is too long for it, else as any input, whose expressions aren't used
abbrev pub IsFileUnanswered : Bytes → Refusal → Type 0
IsFileUnanswered input (Scan e) = ⊥
IsFileUnanswered input LongTable = HoldsLongTable input
IsFileUnanswered input r = IsUnanswered input r

-- the refusal of the scan of a block file
abbrev pub file_refusal : FileScanError → Refusal
file_refusal files.NoMemory = NoMemory
file_refusal e = FileScan e

-- an input that asks the scan of a block file is answered by this refusal: want of memory at any time, else the one reason
abbrev pub IsFileUnscanned : Bytes → Refusal → Type 0
IsFileUnscanned input NoMemory = Unit {0}
IsFileUnscanned input (FileScan files.NoMemory) = ⊥
IsFileUnscanned input (FileScan e) = IsFileUnreported input e
IsFileUnscanned input _ = ⊥

-- a table has no file, for this reason: want of memory at any time, else it is too long
abbrev pub IsWithoutFile : Zones → List (List Column) → Refusal → Type 0
IsWithoutFile zones blocks NoMemory = Unit {0}
IsWithoutFile zones blocks LongTable = ¬ (IsShortTable zones blocks)
IsWithoutFile zones blocks _ = ⊥

-- a scan is answered by this refusal: want of memory at any time, else why its expressions are refused
abbrev pub IsUnscanned : RequestedScan → Refusal → Type 0
IsUnscanned a NoMemory = Unit {0}
IsUnscanned a (Scan e) = IsScanRefused a e
IsUnscanned a _ = ⊥

-- the refusal of expressions, by an error of a kind
abbrev pub kind_refusal : ErrorKind → ScanError → Refusal
kind_refusal of_memory e = NoMemory
kind_refusal _ e = Scan e

abbrev pub scan_refusal : ScanError → Refusal
scan_refusal e = kind_refusal (kind_of e) e

-- a word is not shown, for this reason: want of memory at any time, else it is no hexadecimal text, or its bytes spell no expression
abbrev pub IsWordUnshown : Bytes → Refusal → Type 0
IsWordUnshown word NoMemory = Unit {0}
IsWordUnshown word BadHexText = hex_bytes word ≡ None
IsWordUnshown word (Scan e) = WordIsRefused word e
IsWordUnshown word _ = ⊥

-- the refusal of a query
abbrev pub text_refusal : TextError → Refusal
text_refusal texts.NoMemory = NoMemory
text_refusal e = Query e

-- an expression has no bytes, for this reason: want of memory at any time, else a type that is too deep, or a part that is too long
abbrev pub IsWithoutBytes : Tree → Refusal → Type 0
IsWithoutBytes e NoMemory = Unit {0}
IsWithoutBytes e NotSerializable = ¬ (IsShallow e)
IsWithoutBytes e LongPart = IsShallow e × IsOverlong e
IsWithoutBytes e _ = ⊥

-- a query has no bytes, for this reason: want of memory at any time, else it names no expression, or one that has none
abbrev pub IsQueryRefused : Bytes → Refusal → Type 0
IsQueryRefused query NoMemory = Unit {0}
IsQueryRefused query (Query e) = reading_of query ≡ Err e
IsQueryRefused query NotSerializable = (e : Tree) × Names query e × (¬ (IsShallow e))
IsQueryRefused query LongPart = (e : Tree) × Names query e × IsShallow e × IsOverlong e
IsQueryRefused query _ = ⊥

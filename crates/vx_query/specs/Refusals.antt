-- What the lines of refusals tell.
use Rattle.std.specs.Prelude.{◌++◌, codes}
use Rattle.vx_dtype.specs.Types.{Bytes}
use Rattle.vx_semantics.specs.Breaks.{Cause, by_sum, by_cast}
use Rattle.vx_request.specs.declared.errors.Place.{Place}
use Rattle.vx_request.specs.declared.errors.Place.TheVariants.{Top, Columns, Blocks, Stats, Filter, Projection}
use Rattle.vx_request.specs.declared.errors.Side.{Side}
use Rattle.vx_request.specs.declared.errors.Side.TheVariants as sides
use Rattle.vx_request.specs.declared.errors.TableRefusal.{TableRefusal}
use Rattle.vx_request.specs.declared.errors.TableRefusal.TheVariants.{DuplicateName, DeepType, BadStatPath, DuplicateStat, WrongStatCount, WrongStatType}
use Rattle.vx_request.specs.declared.errors.TableRefusal.TheVariants.{WrongLength, WrongValue}
use Rattle.vx_request.specs.declared.errors.RequestError.{RequestError}
use Rattle.vx_request.specs.declared.errors.FilePlace.{FilePlace}
use Rattle.vx_request.specs.declared.errors.FilePlace.TheVariants as file_places
use Rattle.vx_request.specs.declared.errors.FileText.{FileText}
use Rattle.vx_request.specs.declared.errors.FileText.TheVariants as file_texts
use Rattle.vx_request.specs.declared.errors.FileRequestError.{FileRequestError}
use Rattle.vx_request.specs.declared.errors.FileRequestError.TheVariants as file_requests
use Rattle.vx_file_query.specs.declared.errors.FilePart.{FilePart}
use Rattle.vx_file_query.specs.declared.errors.FilePart.TheVariants as parts
use Rattle.vx_scan.specs.declared.errors.Side.{Side as ScannedSide}
use Rattle.vx_scan.specs.declared.errors.Side.TheVariants as scanned
use Rattle.vx_scan.specs.declared.errors.ScanError.{ScanError}
use Rattle.vx_scan.specs.declared.errors.ScanError.TheVariants as scans
use Rattle.vx_request.specs.declared.errors.RequestError.TheVariants.{NoMemory, InputTooLong, BadJson, BadRequest, BadHex, BadTable}
use Rattle.vx_text.specs.declared.errors.TextError.{TextError}
use Rattle.vx_text.specs.declared.errors.TextError.TheVariants as texts
use Rattle.vx_query.specs.TopWords.{KeyRefusal, unknown_key, bad_key}

-- the name of a place of a request
abbrev pub place_name : Place → Bytes
place_name Top = codes "top"
place_name Columns = codes "columns"
place_name Blocks = codes "blocks"
place_name Stats = codes "stats"
place_name Filter = codes "filter"
place_name Projection = codes "projection"

-- the name of one of the two expressions
abbrev pub side_name : Side → Bytes
side_name sides.Filter = codes "filter"
side_name sides.Projection = codes "projection"

-- the name of a table's refusal
abbrev pub table_refusal_name : TableRefusal → Bytes
table_refusal_name DuplicateName = codes "DuplicateName"
table_refusal_name DeepType = codes "DeepType"
table_refusal_name BadStatPath = codes "BadStatPath"
table_refusal_name DuplicateStat = codes "DuplicateStat"
table_refusal_name WrongStatCount = codes "WrongStatCount"
table_refusal_name WrongStatType = codes "WrongStatType"
table_refusal_name WrongLength = codes "WrongLength"
table_refusal_name WrongValue = codes "WrongValue"

-- what is told of a request that is refused: the refusal's name, and its place
abbrev pub request_refusal_name : RequestError → Bytes
request_refusal_name NoMemory = codes "NoMemory"
request_refusal_name InputTooLong = codes "InputTooLong"
request_refusal_name BadJson = codes "BadJson"
request_refusal_name (BadRequest place) = codes "BadRequest " ++ place_name place
request_refusal_name (BadHex side) = codes "BadHex " ++ side_name side
request_refusal_name (BadTable refusal) = codes "BadTable " ++ table_refusal_name refusal

-- the name of a place of a request of a block file, and that of one of its texts
abbrev pub file_place_name : FilePlace → Bytes
file_place_name file_places.Top = codes "top"
file_place_name file_places.File = codes "file"
file_place_name file_places.Filter = codes "filter"
file_place_name file_places.Projection = codes "projection"

abbrev pub file_text_name : FileText → Bytes
file_text_name file_texts.File = codes "file"
file_text_name file_texts.Filter = codes "filter"
file_text_name file_texts.Projection = codes "projection"

-- what is told of a request of a block file that is refused: the refusal's name, and its place
abbrev pub file_request_refusal_name : FileRequestError → Bytes
file_request_refusal_name file_requests.NoMemory = codes "NoMemory"
file_request_refusal_name file_requests.InputTooLong = codes "InputTooLong"
file_request_refusal_name file_requests.BadJson = codes "BadJson"
file_request_refusal_name (file_requests.BadRequest place) = codes "BadRequest " ++ file_place_name place
file_request_refusal_name (file_requests.BadHex which) = codes "BadHex " ++ file_text_name which

-- the name of a part of a block file
abbrev pub file_part_name : FilePart → Bytes
file_part_name parts.Magic = codes "magic"
file_part_name parts.Header = codes "header"
file_part_name parts.Zones = codes "zones"
file_part_name parts.End = codes "end"
file_part_name parts.Column = codes "column"

-- what is told of a block file of which this part isn't as it has to be
abbrev pub bad_file_name : FilePart → Bytes
bad_file_name part = codes "BadFile " ++ file_part_name part

-- the name of one of the expressions of a scan
abbrev pub scanned_side_name : ScannedSide → Bytes
scanned_side_name scanned.Filter = codes "filter"
scanned_side_name scanned.Projection = codes "projection"
scanned_side_name scanned.Text = codes "text"

-- what is told of a scan that is refused or breaks: the refusal's name, and its side
abbrev pub scan_refusal_name : ScanError → Bytes
scan_refusal_name scans.NoMemory = codes "NoMemory"
scan_refusal_name (scans.BadWire side) = codes "BadWire " ++ scanned_side_name side
scan_refusal_name (scans.TooDeep side) = codes "TooDeep " ++ scanned_side_name side
scan_refusal_name (scans.TooManyNodes side) = codes "TooManyNodes " ++ scanned_side_name side
scan_refusal_name (scans.UnknownExpr side) = codes "UnknownExpr " ++ scanned_side_name side
scan_refusal_name (scans.BadMetadata side) = codes "BadMetadata " ++ scanned_side_name side
scan_refusal_name (scans.WrongChildren side) = codes "WrongChildren " ++ scanned_side_name side
scan_refusal_name (scans.NotStruct side) = codes "NotStruct " ++ scanned_side_name side
scan_refusal_name (scans.NullableSelect side) = codes "NullableSelect " ++ scanned_side_name side
scan_refusal_name (scans.UnknownField side) = codes "UnknownField " ++ scanned_side_name side
scan_refusal_name (scans.DuplicateField side) = codes "DuplicateField " ++ scanned_side_name side
scan_refusal_name (scans.TypeMismatch side) = codes "TypeMismatch " ++ scanned_side_name side
scan_refusal_name scans.FilterNotBool = codes "FilterNotBool"
scan_refusal_name scans.Overflow = codes "Overflow"
scan_refusal_name scans.BadCast = codes "BadCast"
scan_refusal_name scans.StoreFault = codes "StoreFault"

-- what is told of a query that is refused
abbrev pub text_refusal_name : TextError → Bytes
text_refusal_name texts.NoMemory = codes "NoMemory"
text_refusal_name texts.TooLong = codes "TooLong"
text_refusal_name texts.BadToken = codes "BadToken"
text_refusal_name texts.TooManyTokens = codes "TooManyTokens"
text_refusal_name texts.BadQuery = codes "BadQuery"
text_refusal_name texts.BadValue = codes "BadValue"
text_refusal_name texts.NotWritable = codes "NotWritable"

-- what is told of a name that is no key
abbrev pub key_refusal_name : KeyRefusal → Bytes
key_refusal_name unknown_key = codes "UnknownKey"
key_refusal_name bad_key = codes "BadKey"

-- what is told of a phase that breaks by a cause
abbrev pub break_name : Cause → Bytes
break_name by_sum = codes "Overflow"
break_name by_cast = codes "BadCast"

-- the line of a refusal
abbrev pub refusal_line : Bytes → Bytes
refusal_line name = codes "error: " ++ (name ++ codes "\n")

-- What a refused call tells: a status, and the name of the refusal.
use Rattle.std.specs.Prelude.{ℕ, ◌++◌, codes}
use Rattle.std.specs.String.{string_bytes}
use Rattle.vx_dtype.specs.Types.{Bytes}
use Rattle.vx_arrays.specs.declared.errors.ArrayError.{ArrayError}
use Rattle.vx_arrays.specs.declared.errors.ArrayError.TheVariants as arrays
use Rattle.vx_request.specs.declared.errors.Place.{Place}
use Rattle.vx_request.specs.declared.errors.Place.TheVariants as places
use Rattle.vx_request.specs.declared.errors.Side.{Side}
use Rattle.vx_request.specs.declared.errors.Side.TheVariants as sides
use Rattle.vx_request.specs.declared.errors.TableRefusal.{TableRefusal}
use Rattle.vx_request.specs.declared.errors.TableRefusal.TheVariants as tables
use Rattle.vx_request.specs.declared.errors.RequestError.{RequestError}
use Rattle.vx_request.specs.declared.errors.RequestError.TheVariants as requests
use Rattle.vx_calls.specs.declared.errors.CallError.{CallError}
use Rattle.vx_calls.specs.declared.errors.CallError.TheVariants as errors

-- the status of a refusal: 3 of the schema, 4 of the filter, 5 of a sum, 8 where there was no memory, 10 of the arrays, 11 of a cast
abbrev pub call_status : CallError → ℕ
call_status errors.NoMemory = 8
call_status (errors.Schema refusal) = 3
call_status errors.ManyBlocks = 10
call_status (errors.Arrays refusal) = 10
call_status errors.Overflow = 5
call_status errors.BadCast = 11
call_status _ = 4

-- the name of a place of a table
abbrev pub place_name : Place → Bytes
place_name places.Top = codes "top"
place_name places.Columns = codes "columns"
place_name places.Blocks = codes "blocks"
place_name places.Stats = codes "stats"
place_name places.Filter = codes "filter"
place_name places.Projection = codes "projection"

abbrev pub side_name : Side → Bytes
side_name sides.Filter = codes "filter"
side_name sides.Projection = codes "projection"

-- the name of a table's refusal
abbrev pub table_name : TableRefusal → Bytes
table_name tables.DuplicateName = codes "DuplicateName"
table_name tables.DeepType = codes "DeepType"
table_name tables.BadStatPath = codes "BadStatPath"
table_name tables.DuplicateStat = codes "DuplicateStat"
table_name tables.WrongStatCount = codes "WrongStatCount"
table_name tables.WrongStatType = codes "WrongStatType"
table_name tables.WrongLength = codes "WrongLength"
table_name tables.WrongValue = codes "WrongValue"

-- what is told of a schema that is refused: the refusal's name, and behind it its place or its part
abbrev pub schema_line : RequestError → Bytes
schema_line requests.NoMemory = codes "NoMemory"
schema_line requests.InputTooLong = codes "InputTooLong"
schema_line requests.BadJson = codes "BadJson"
schema_line (requests.BadRequest place) = codes "BadRequest " ++ place_name place
schema_line (requests.BadHex side) = codes "BadHex " ++ side_name side
schema_line (requests.BadTable refusal) = codes "BadTable " ++ table_name refusal

-- the name of the refusal of arrays
abbrev pub array_line : ArrayError → Bytes
array_line arrays.NoMemory = codes "NoMemory"
array_line arrays.NoArray = codes "NoArray"
array_line arrays.WrongBuffers = codes "WrongBuffers"
array_line arrays.BadText = codes "BadText"
array_line arrays.NullCell = codes "NullCell"

-- what is told of a refusal: its name, and of a statement its line
abbrev pub call_line : CallError → Bytes
call_line errors.NoMemory = codes "NoMemory"
call_line (errors.Schema refusal) = schema_line refusal
call_line errors.NotUtf8 = codes "NotUtf8"
call_line (errors.Statement line) = string_bytes line
call_line errors.Ordered = codes "Ordered"
call_line errors.Limited = codes "Limited"
call_line errors.NotSerializable = codes "NotSerializable"
call_line errors.TooLong = codes "TooLong"
call_line errors.BadWire = codes "BadWire"
call_line errors.TooDeep = codes "TooDeep"
call_line errors.TooManyNodes = codes "TooManyNodes"
call_line errors.UnknownExpr = codes "UnknownExpr"
call_line errors.BadMetadata = codes "BadMetadata"
call_line errors.WrongChildren = codes "WrongChildren"
call_line errors.NotStruct = codes "NotStruct"
call_line errors.NullableSelect = codes "NullableSelect"
call_line errors.UnknownField = codes "UnknownField"
call_line errors.DuplicateField = codes "DuplicateField"
call_line errors.TypeMismatch = codes "TypeMismatch"
call_line errors.FilterNotBool = codes "FilterNotBool"
call_line errors.ManyBlocks = codes "ManyBlocks"
call_line (errors.Arrays refusal) = array_line refusal
call_line errors.Overflow = codes "Overflow"
call_line errors.BadCast = codes "BadCast"

-- of what refusals come
abbrev pub schema_error : RequestError → CallError
schema_error requests.NoMemory = errors.NoMemory
schema_error refusal = errors.Schema refusal

abbrev pub array_error : ArrayError → CallError
array_error arrays.NoMemory = errors.NoMemory
array_error refusal = errors.Arrays refusal

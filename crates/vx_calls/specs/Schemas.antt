-- Schemas: the columns of a table that a text of JSON tells, as standard input does. Its blocks and its statistics count for nothing.
use Rattle.std.specs.Prelude.{◌≡◌, Result, Ok}
use Rattle.vx_dtype.specs.Types.{Bytes, Fields}
use Rattle.vx_request.specs.Requests.{◌>>=◌}
use Rattle.vx_request.specs.Tables.{told_table}
use Rattle.vx_request.specs.declared.errors.RequestError.{RequestError}

-- the columns that a schema tells, or the first refusal of the table
abbrev pub columns_told : Bytes → Result Fields RequestError
columns_told schema = told_table schema >>= λ table. Ok table.zones.columns

-- a schema tells columns over which this holds
abbrev pub OverSchema : Bytes → (Fields → Type 0) → Type 0
OverSchema schema Holds = (columns : Fields) × (columns_told schema ≡ Ok columns) × Holds columns

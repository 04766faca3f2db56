-- For the checker: no public clause cites this. Of columns of structs, the column of a name's field in the last that gives the name.
use Rattle.std.specs.Prelude.{List, map, Option, option_map}
use Rattle.std.specs.Option.{option_and_then}
use Rattle.vx_dtype.specs.Types.{Bytes}
use Rattle.vx_dtype.specs.TypeRules.{nullability_of, widened, fields_of, field_type}
use Rattle.vx_dtype.specs.Structs.{field_of}
use Rattle.vx_column.specs.Columns.{Column, column}
use Rattle.vx_semantics.specs.Merging.{last_giver}
use Rattle.vx_semantics.specs.Typing.{names_in}

-- the names of a column's fields
abbrev pub column_names : Column → List Bytes
column_names c = names_in c.ty

-- the column of the field of this name
abbrev pub field_in : Bytes → Column → Option Column
field_in f c = option_map (λ t. column (widened t (nullability_of c.ty)) (map (field_of f) c.rows)) (field_type f (fields_of c.ty))

-- the column of the field of this name in the last column that has one
abbrev pub merged_column : Bytes → List Column → Option Column
merged_column f cs = option_and_then (field_in f) (last_giver column_names f cs)

use Rattle.std.proofs.Common.{◌≡◌, true, map, take}
use Rattle.std.specs.List.{All}
use Rattle.vx_dtype.specs.TypeRules.{no_name_twice}
use Rattle.vx_dtype.specs.TypeViews.{type_view}
use Rattle.vx_column.specs.StructColumns.{column_types}
use Rattle.vx_column.specs.Cells.{all_rows_fit}
use Rattle.vx_column.proofs.structs.types_of.Given as goal

-- the types of the columns so far
abbrev pub invariant-loop-field : goal.invariant-loop-field
invariant-loop-field l =
    (map type_view l.dtypes.items ≡ column_types (take l.field-index l.fn.fields))
    × All (λ c. no_name_twice c.ty ≡ true) (take l.field-index l.fn.fields)
    × (all_rows_fit (take l.field-index l.fn.fields) ≡ true)

use Rattle.std.proofs.Common.{◌≡◌, ◌+◌, ◌*◌, take}
use Rattle.vx_dtype.specs.TypeRules.{depth_of, depth_below}
use Rattle.vx_dtype.specs.TypeViews.{type_view}
use Rattle.vx_column.specs.Splits.{field_columns, row_parts}
use Rattle.vx_column.proofs.splits.+splits.Given as goal

abbrev pub decreases-column_of : goal.decreases-column_of
decreases-column_of l = 4 * depth_of (type_view l.dtype) + 3

abbrev pub decreases-column_apart : goal.decreases-column_apart
decreases-column_apart l = 4 * depth_of (type_view l.dtype) + 2

abbrev pub decreases-whole_column : goal.decreases-whole_column
decreases-whole_column l = 4 * depth_of (type_view l.dtype) + 1

abbrev pub decreases-field_columns : goal.decreases-field_columns
decreases-field_columns l = 4 * depth_below l.fields.now + 4

-- the columns of the fields so far
abbrev pub invariant-field_columns-fields : goal.invariant-field_columns-fields
invariant-field_columns-fields l = l.columns.items ≡ take l.i (field_columns l.fn.fields (row_parts l.fn.rows))

use Rattle.std.proofs.Common.{◌≡◌, map, take}
use Rattle.vx_dtype.specs.RawViews.{raw_view}
use Rattle.vx_column.specs.Splits.{parts_at, row_parts}
use Rattle.vx_column.proofs.splits.field_values.Given as goal

-- the values of the structs so far
abbrev pub invariant-loop-row : goal.invariant-loop-row
invariant-loop-row l = map raw_view l.values.items ≡ parts_at l.fn.place (row_parts (take l.row-index l.fn.rows))

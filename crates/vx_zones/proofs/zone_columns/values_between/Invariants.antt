use Rattle.std.proofs.Common.{◌≡◌, true, slice_range}
use Rattle.vx_column.specs.Columns.{seen_rows, values_fit}
use Rattle.vx_zones.proofs.zone_columns.values_between.Given as goal

-- the rows so far
abbrev pub invariant-loop-i : goal.invariant-loop-i
invariant-loop-i l =
    (values_fit l.fn.column.ty l.values.items ≡ true) × (seen_rows l.fn.column.ty l.values.items ≡ slice_range l.fn.column.rows l.fn.first l.i)

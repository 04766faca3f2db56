use Rattle.std.proofs.Common.{◌≡◌, true, take, map}
use Rattle.vx_dtype.specs.Casts.{cast3}
use Rattle.vx_dtype.specs.TypeViews.{type_view}
use Rattle.vx_column.specs.Columns.{values_fit, seen_rows}
use Rattle.vx_kernels.proofs.casts.cast_rows.Given as goal

abbrev pub invariant-loop-i : goal.invariant-loop-i
invariant-loop-i l =
    (values_fit (type_view l.fn.target) l.made.items ≡ true)
    × (seen_rows (type_view l.fn.target) l.made.items ≡ map (cast3 (type_view l.fn.target)) (take l.i l.fn.c.rows))

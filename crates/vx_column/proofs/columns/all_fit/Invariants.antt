use Rattle.std.proofs.Common.{◌≡◌, drop}
use Rattle.vx_dtype.specs.TypeViews.{type_view}
use Rattle.vx_column.specs.Columns.{values_fit}
use Rattle.vx_column.proofs.columns.all_fit.Given as goal

-- what is left to test
abbrev pub invariant-loop-value : goal.invariant-loop-value
invariant-loop-value l = values_fit (type_view l.fn.dtype) l.fn.values ≡ values_fit (type_view l.fn.dtype) (drop l.value-index l.fn.values)

use Rattle.std.proofs.Common.{◌≡◌, ◌≤◌, ◌-◌, ◌++◌, true, drop, length}
use Rattle.vx_dtype.specs.TypeViews.{type_view}
use Rattle.vx_words.specs.Truths.{vals_of}
use Rattle.vx_column.specs.Columns.{values_fit, seen_rows, kept_rows}
use Rattle.vx_column.proofs.masks.filter_values.Given as goal

-- what is kept so far stands before what is still to be kept
abbrev pub invariant-kept : goal.invariant-kept
invariant-kept l =
    (l.from ≤ length l.fn.keep)
    × (values_fit (type_view l.fn.dtype) l.kept.items ≡ true)
    × (seen_rows (type_view l.fn.dtype) l.kept.items ++ kept_rows (drop l.from (seen_rows (type_view l.fn.dtype) l.fn.values)) (drop l.from (vals_of l.fn.keep))
    ≡ kept_rows (seen_rows (type_view l.fn.dtype) l.fn.values) (vals_of l.fn.keep))

abbrev pub decreases-kept : goal.decreases-kept
decreases-kept l = length l.fn.keep - l.from

use Rattle.std.proofs.Common.{◌≡◌, true, map, take, drop}
use Rattle.std.specs.String.{string_bytes}
use Rattle.vx_dtype.specs.TypeViews.{type_view}
use Rattle.vx_column.specs.Columns.{values_fit, seen_rows}
use Rattle.vx_display.specs.ValueTexts.{value_text}
use Rattle.vx_query.proofs.answers.row_texts.Given as goal

-- the texts of the rows so far, and the rows that are left are of the type
abbrev pub invariant-loop-row : goal.invariant-loop-row
invariant-loop-row l =
    (map string_bytes l.texts.items ≡ map value_text (seen_rows (type_view l.fn.dtype) (take l.row-index l.fn.rows)))
    × (values_fit (type_view l.fn.dtype) (drop l.row-index l.fn.rows) ≡ true)

use Rattle.std.proofs.Common.{◌≡◌, map, take}
use Rattle.csv.specs.Records.{fields_of}
use Rattle.vx_dtype.specs.RawViews.{raw_view}
use Rattle.vx_dtype.specs.TypeViews.{type_view}
use Rattle.vx_laws_csv.specs.Cells.{cell_at, raw_or_null}
use Rattle.vx_csv.proofs.columns.values_of.Given as goal

-- the values so far
abbrev pub invariant-loop-row : goal.invariant-loop-row
invariant-loop-row l =
    map raw_view l.values.items ≡ map (raw_or_null l.fn.null (type_view l.fn.dtype)) (map (cell_at l.fn.place) (map fields_of (take l.row-index l.fn.rows)))

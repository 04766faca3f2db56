use Rattle.std.proofs.Common.{◌≡◌, map, drop}
use Rattle.csv.specs.Records.{fields_of}
use Rattle.vx_dtype.specs.TypeViews.{type_view}
use Rattle.vx_laws_csv.specs.Cells.{cell_at}
use Rattle.vx_laws_csv.specs.FoundTypes.{all_taken}
use Rattle.vx_csv.proofs.found.all_taken.Given as goal

-- what is left to test
abbrev pub invariant-loop-row : goal.invariant-loop-row
invariant-loop-row l =
    all_taken l.fn.null (type_view l.fn.dtype) (map (cell_at l.fn.place) (map fields_of l.fn.rows))
    ≡ all_taken l.fn.null (type_view l.fn.dtype) (map (cell_at l.fn.place) (map fields_of (drop l.row-index l.fn.rows)))

use Rattle.std.proofs.Common.{◌≡◌, map, drop}
use Rattle.csv.specs.Records.{fields_of}
use Rattle.vx_laws_csv.specs.Cells.{cell_at}
use Rattle.vx_laws_csv.specs.FoundTypes.{all_null}
use Rattle.vx_csv.proofs.found.all_null.Given as goal

-- what is left to test
abbrev pub invariant-loop-row : goal.invariant-loop-row
invariant-loop-row l =
    all_null l.fn.null (map (cell_at l.fn.place) (map fields_of l.fn.rows)) ≡ all_null l.fn.null (map (cell_at l.fn.place) (map fields_of (drop l.row-index l.fn.rows)))

use Rattle.std.proofs.Common.{◌≡◌, map, drop}
use Rattle.csv.specs.Records.{fields_of}
use Rattle.vx_dtype.specs.TypeViews.{type_view}
use Rattle.vx_laws_csv.specs.CsvTables.{cells_refusal}
use Rattle.vx_csv.proofs.values.cells_refusal.Given as goal

-- what is left to test
abbrev pub invariant-loop-i : goal.invariant-loop-i
invariant-loop-i l =
    cells_refusal l.fn.null l.fn.row 0 (map type_view l.fn.dtypes) (fields_of l.fn.line)
    ≡ cells_refusal l.fn.null l.fn.row l.i (map type_view (drop l.i l.fn.dtypes)) (fields_of l.fn.line)

use Rattle.std.proofs.Common.{◌≡◌, ◌++◌, map, drop}
use Rattle.csv.specs.Records.{fields_of}
use Rattle.vx_dtype.specs.TypeViews.{type_view}
use Rattle.vx_laws_csv.specs.CsvTables.{columns_from}
use Rattle.vx_csv.proofs.Blocks.{AreSound}
use Rattle.vx_csv.proofs.columns.columns_of.Given as goal

-- the columns so far, before those of the types that are left
abbrev pub invariant-loop-i : goal.invariant-loop-i
invariant-loop-i l =
    AreSound l.fn.null l.i (drop l.i l.fn.dtypes) (map fields_of l.fn.rows)
    × (columns_from l.fn.null 0 (map type_view l.fn.dtypes) (map fields_of l.fn.rows)
    ≡ l.columns.items ++ columns_from l.fn.null l.i (map type_view (drop l.i l.fn.dtypes)) (map fields_of l.fn.rows))

use Rattle.std.proofs.Common.{◌≡◌, ◌+◌, map, drop}
use Rattle.csv.specs.Records.{fields_of}
use Rattle.vx_dtype.specs.TypeViews.{type_view}
use Rattle.vx_laws_csv.specs.CsvTables.{values_refusal}
use Rattle.vx_csv.proofs.values.values_refusal.Given as goal

-- what is left to test
abbrev pub invariant-loop-i : goal.invariant-loop-i
invariant-loop-i l =
    values_refusal l.fn.null (map type_view l.fn.dtypes) 1 (map fields_of l.fn.rows)
    ≡ values_refusal l.fn.null (map type_view l.fn.dtypes) (l.i + 1) (map fields_of (drop l.i l.fn.rows))

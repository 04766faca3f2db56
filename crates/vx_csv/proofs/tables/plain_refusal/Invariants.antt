use Rattle.std.proofs.Common.{◌≡◌, ◌+◌, map, drop}
use Rattle.vx_dtype.specs.TypeViews.{type_view}
use Rattle.vx_laws_csv.specs.CsvTables.{plain_refusal}
use Rattle.vx_csv.proofs.tables.plain_refusal.Given as goal

-- what is left to test
abbrev pub invariant-loop-i : goal.invariant-loop-i
invariant-loop-i l = plain_refusal 1 (map type_view l.fn.dtypes) ≡ plain_refusal (l.i + 1) (map type_view (drop l.i l.fn.dtypes))

use Rattle.std.proofs.Common.{◌≡◌, ◌++◌, map, drop}
use Rattle.csv.specs.Records.{fields_of}
use Rattle.vx_dtype.specs.TypeViews.{type_view}
use Rattle.vx_laws_csv.specs.FoundTypes.{found_types}
use Rattle.vx_csv.proofs.found.found_types.Given as goal

-- the types so far, before those of the names that are left
abbrev pub invariant-loop-i : goal.invariant-loop-i
invariant-loop-i l =
    found_types l.fn.null 0 l.fn.names (map fields_of l.fn.rows)
    ≡ map type_view l.types.items ++ found_types l.fn.null l.i (drop l.i l.fn.names) (map fields_of l.fn.rows)

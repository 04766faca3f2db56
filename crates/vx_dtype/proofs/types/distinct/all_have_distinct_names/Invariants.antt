use Rattle.std.proofs.Common.{◌≡◌, map, drop}
use Rattle.std.specs.List.{list_all}
use Rattle.vx_dtype.specs.TypeRules.{no_name_twice}
use Rattle.vx_dtype.specs.TypeViews.{type_view}
use Rattle.vx_dtype.proofs.types.distinct.all_have_distinct_names.Given as goal

-- what is left to test
abbrev pub invariant-loop-dtype : goal.invariant-loop-dtype
invariant-loop-dtype l = list_all no_name_twice (map type_view l.dtypes) ≡ list_all no_name_twice (map type_view (drop l.dtype-index l.dtypes))

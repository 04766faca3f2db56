use Rattle.std.proofs.Common.{◌≡◌, nat_le, map, drop}
use Rattle.std.specs.List.{list_all}
use Rattle.vx_dtype.specs.TypeRules.{depth_of, most_deep}
use Rattle.vx_dtype.specs.TypeViews.{type_view}
use Rattle.vx_zones.specs.Zoning.{are_shallow}
use Rattle.vx_zones.proofs.zone_rules.are_shallow.Given as goal

-- what is left to test
abbrev pub invariant-loop-dtype : goal.invariant-loop-dtype
invariant-loop-dtype l = are_shallow l.fn.columns ≡ list_all (λ t. nat_le (depth_of t) most_deep) (map type_view (drop l.dtype-index l.dtype-items))

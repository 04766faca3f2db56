use Rattle.std.proofs.Common.{◌≡◌, drop}
use Rattle.std.specs.List.{list_all}
use Rattle.vx_dtype.specs.TypeViews.{type_view}
use Rattle.vx_zones.specs.Zoning.{values_have, scalars_fit}
use Rattle.vx_zones.specs.LeafTypes.{plain_from, type_by}
use Rattle.vx_zones.proofs.value_types.have_their_types.Given as goal

-- what is left to test
abbrev pub invariant-loop-stat : goal.invariant-loop-stat
invariant-loop-stat l =
    (list_all (λ z. values_have z.values (type_by (plain_from (type_view l.fn.row)) z)) l.fn.stats
    ≡ list_all (λ z. values_have z.values (type_by (plain_from (type_view l.fn.row)) z)) (drop l.stat-index l.fn.stats))
    × (list_all (λ z. scalars_fit z.values) l.fn.stats ≡ list_all (λ z. scalars_fit z.values) (drop l.stat-index l.fn.stats))

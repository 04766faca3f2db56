use Rattle.std.proofs.Common.{◌≡◌, map, take, drop}
use Rattle.std.specs.List.{list_all}
use Rattle.vx_dtype.specs.TypeViews.{type_view}
use Rattle.vx_zones.specs.LeafTypes.{plain_from}
use Rattle.vx_zones.specs.TypedColumns.{all_typed}
use Rattle.vx_zones.specs.ZoneViews.{stat_view}
use Rattle.vx_zones.specs.Zoning.{scalars_fit}
use Rattle.vx_zones.proofs.value_types.typed_columns.Given as goal

-- the columns so far, and what is left to test
abbrev pub invariant-loop-stat : goal.invariant-loop-stat
invariant-loop-stat l =
    (all_typed (plain_from (type_view l.fn.row)) (map stat_view l.fn.stats) ≡ all_typed (plain_from (type_view l.fn.row)) (map stat_view (drop l.stat-index l.fn.stats)))
    × (list_all (λ z. scalars_fit z.values) (map stat_view l.fn.stats) ≡ list_all (λ z. scalars_fit z.values) (map stat_view (drop l.stat-index l.fn.stats)))
    × (l.columns.items ≡ map stat_view (take l.stat-index l.fn.stats))

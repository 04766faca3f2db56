use Rattle.std.proofs.Common.{◌≡◌, map, drop, is_some}
use Rattle.std.specs.List.{list_all}
use Rattle.vx_dtype.specs.TypeViews.{type_view}
use Rattle.vx_zones.specs.Heads.{bare}
use Rattle.vx_zones.specs.LeafTypes.{plain_from, type_by}
use Rattle.vx_zones.specs.ZoneViews.{head_view}
use Rattle.vx_zones.proofs.zone_rules.lead_to_fields.Given as goal

-- what is left to test
abbrev pub invariant-loop-head : goal.invariant-loop-head
invariant-loop-head l =
    list_all (λ h. is_some (type_by (plain_from (type_view l.fn.row)) (bare h))) (map head_view l.fn.heads)
    ≡ list_all (λ h. is_some (type_by (plain_from (type_view l.fn.row)) (bare h))) (map head_view (drop l.head-index l.fn.heads))

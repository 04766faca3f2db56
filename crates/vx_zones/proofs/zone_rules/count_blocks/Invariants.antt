use Rattle.std.proofs.Common.{◌≡◌, map, drop, length}
use Rattle.std.specs.Prelude.{◌==◌}
use Rattle.std.specs.List.{list_all}
use Rattle.vx_zones.specs.ZoneViews.{head_view}
use Rattle.vx_zones.proofs.zone_rules.count_blocks.Given as goal

-- what is left to test
abbrev pub invariant-loop-head : goal.invariant-loop-head
invariant-loop-head l =
    list_all (λ h. h.count == length l.fn.lengths) (map head_view l.fn.heads) ≡ list_all (λ h. h.count == length l.fn.lengths) (map head_view (drop l.head-index l.fn.heads))

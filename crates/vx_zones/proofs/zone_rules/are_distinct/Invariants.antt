use Rattle.std.proofs.Common.{◌≡◌, true, ◌≤◌, length, map, drop}
use Rattle.std.specs.BTreeSet as set
use Rattle.vx_zones.specs.ZoneViews.{bare_view}
use Rattle.vx_zones.specs.Zoning.{distinct_statistics}
use Rattle.vx_zones.proofs.DistinctLemmas.{has_names, names_cmp}
use Rattle.vx_zones.proofs.zone_rules.are_distinct.Given as goal

-- the statistics from the place on are distinct, and the set has the names of their kinds and paths
abbrev pub invariant-loop-left : goal.invariant-loop-left
invariant-loop-left l =
    (l.left ≤ length l.fn.heads)
    × (distinct_statistics (map bare_view (drop l.left l.fn.heads)) ≡ true)
    × ((k : _) → set.contains (λ x y. names_cmp x.items y.items) l.behind k ≡ has_names k.items (map bare_view (drop l.left l.fn.heads)))

-- how many statistics are left to test
abbrev pub decreases-loop-left : goal.decreases-loop-left
decreases-loop-left l = l.left

use Rattle.std.proofs.Common.{◌≡◌, map, take, drop}
use Rattle.std.specs.List.{list_all}
use Rattle.vx_dtype.specs.TypeViews.{type_view}
use Rattle.vx_zones.specs.LeafTypes.{plain_from}
use Rattle.vx_request.specs.ReadStatistics.{has_type_by, stat_by}
use Rattle.vx_request.specs.RequestViews.{stat_view}
use Rattle.vx_request.proofs.stats.stats_of.Given as goal

-- the columns so far, and what is left to read
abbrev pub invariant-loop-stat : goal.invariant-loop-stat
invariant-loop-stat l =
    (list_all (has_type_by (plain_from (type_view l.fn.row))) (map (stat_by (plain_from (type_view l.fn.row))) (map stat_view l.fn.stats))
    ≡ list_all (has_type_by (plain_from (type_view l.fn.row))) (map (stat_by (plain_from (type_view l.fn.row))) (map stat_view (drop l.stat-index l.fn.stats))))
    × (l.made.items ≡ map (stat_by (plain_from (type_view l.fn.row))) (map stat_view (take l.stat-index l.fn.stats)))

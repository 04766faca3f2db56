-- The statistics so far, and then those that are left.
use Rattle.std.proofs.Common.{◌≡◌, ◌++◌, map, drop}
use Rattle.vx_column.specs.Columns.{zip_rows}
use Rattle.vx_zones.specs.ZoneViews.{stat_view}
use Rattle.vx_calls.specs.BlockZones.{told_statistic}
use Rattle.vx_calls.specs.Steps.{needed_view}
use Rattle.vx_calls.proofs.zones.told_statistics.Given as goal

abbrev pub invariant-loop-i : goal.invariant-loop-i
invariant-loop-i l =
    map stat_view l.statistics.items ++ zip_rows told_statistic (map needed_view (drop l.i l.needed)) (drop l.i l.cells)
    ≡ zip_rows told_statistic (map needed_view l.needed) l.cells

-- The types of the cells of the statistics so far.
use Rattle.std.proofs.Common.{◌≡◌, map, take}
use Rattle.vx_dtype.specs.TypeViews.{type_view}
use Rattle.vx_zones.specs.LeafTypes.{plain_from}
use Rattle.vx_calls.specs.BlockZones.{cell_type_by}
use Rattle.vx_calls.specs.Steps.{needed_view}
use Rattle.vx_calls.proofs.zones.cell_types_by.Given as goal

abbrev pub invariant-loop-statistic : goal.invariant-loop-statistic
invariant-loop-statistic l =
    map type_view l.types.items ≡ map (cell_type_by (plain_from (type_view l.fn.row))) (map needed_view (take l.statistic-index l.fn.needed))

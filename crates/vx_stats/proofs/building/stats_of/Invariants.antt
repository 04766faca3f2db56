use Rattle.std.proofs.Common.{◌≡◌, ◌++◌, [], map}
use Rattle.vx_dtype.proofs.FieldsFrom.{fields_from}
use Rattle.vx_zones.specs.ZoneViews.{stat_view}
use Rattle.vx_tables.specs.Blocks.{block_view, table_of_blocks}
use Rattle.vx_stats.specs.Walks.{walked_below}
use Rattle.vx_stats.proofs.building.stats_of.Given as goal

-- the statistics so far, and those of the columns from the place on
abbrev pub invariant-loop-i : goal.invariant-loop-i
invariant-loop-i l =
    let blocks = (table_of_blocks l.fn.zones (map block_view l.fn.blocks)).blocks in
    walked_below [] l.fn.zones.columns blocks ≡ map stat_view l.stats.items ++ walked_below [] (fields_from l.i l.fn.zones.columns) blocks

use Rattle.std.proofs.Common.{◌≡◌, map, take}
use Rattle.vx_tables.specs.Blocks.{block_view}
use Rattle.vx_stats.specs.ColumnFacts.{column_at}
use Rattle.vx_stats.proofs.building.columns_at.Given as goal

-- the columns so far
abbrev pub invariant-loop-block : goal.invariant-loop-block
invariant-loop-block l = l.columns.items ≡ map (column_at l.fn.place) (map block_view (take l.block-index l.fn.blocks))

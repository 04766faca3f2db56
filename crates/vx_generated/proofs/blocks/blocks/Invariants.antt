use Rattle.std.proofs.Common.{◌≡◌, map}
use Rattle.std.specs.List.{range_with_len}
use Rattle.vx_tables.specs.Blocks.{block_view}
use Rattle.vx_generated.specs.GeneratedBlocks.{columns_in}
use Rattle.vx_generated.proofs.blocks.blocks.Given as goal

-- the columns of the blocks so far
abbrev pub invariant-loop-block : goal.invariant-loop-block
invariant-loop-block l = map block_view l.blocks.items ≡ map (columns_in l.rows) (range_with_len 0 l.block)

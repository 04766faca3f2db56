use Rattle.std.proofs.Common.{◌≡◌, map}
use Rattle.std.specs.List.{range_with_len}
use Rattle.vx_tables.specs.Blocks.{block_view}
use Rattle.vx_cutting.specs.Cutting.{block_cut}
use Rattle.vx_cutting.proofs.cutting.blocks_of.Given as goal

-- the blocks so far
abbrev pub invariant-loop-block : goal.invariant-loop-block
invariant-loop-block l = map block_view l.blocks.items ≡ map (block_cut l.most l.columns) (range_with_len 0 l.block)

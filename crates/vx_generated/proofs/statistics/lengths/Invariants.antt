use Rattle.std.proofs.Common.{◌≡◌, map}
use Rattle.std.specs.List.{range_with_len}
use Rattle.vx_laws_generated.specs.GeneratedTable.{block_length}
use Rattle.vx_generated.proofs.statistics.lengths.Given as goal

-- the lengths of the blocks so far
abbrev pub invariant-loop-block : goal.invariant-loop-block
invariant-loop-block l = l.lengths.items ≡ map (block_length l.rows) (range_with_len 0 l.block)

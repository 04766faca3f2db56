use Rattle.std.proofs.Common.{◌≡◌, map}
use Rattle.std.specs.List.{range_with_len}
use Rattle.vx_cutting.specs.Cutting.{length_cut}
use Rattle.vx_cutting.proofs.cutting.lengths_of.Given as goal

-- the lengths of the blocks so far
abbrev pub invariant-loop-block : goal.invariant-loop-block
invariant-loop-block l = l.lengths.items ≡ map (length_cut l.most l.rows) (range_with_len 0 l.block)

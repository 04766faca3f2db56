use Rattle.std.proofs.Common.{◌≡◌, take}
use Rattle.vx_topk.specs.TopEnds.{numbers_of}
use Rattle.vx_topk.proofs.tops.block_numbers.Given as goal

-- the numbers of the blocks before this one
abbrev pub invariant-loop-block : goal.invariant-loop-block
invariant-loop-block l = l.numbers.items ≡ numbers_of (take l.block l.lengths)

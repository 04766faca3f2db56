use Rattle.std.proofs.Common.{◌≡◌, false}
use Rattle.std.proofs.Math.ListN.{replicate}
use Rattle.vx_block_pruning.proofs.rules.none_of.Given as goal

-- the blocks so far
abbrev pub invariant-loop : goal.invariant-loop
invariant-loop l = l.flags.items ≡ replicate l.counter false

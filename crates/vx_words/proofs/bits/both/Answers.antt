use Rattle.std.proofs.Common.{arith}
use Rattle.vx_words.proofs.BitLemmas.{both_bits}
use Rattle.vx_words.proofs.bits.both.Goals as goal

pub returns-clause-bits : goal.returns-clause-bits
returns-clause-bits c =
    both_bits c.args.left.now c.args.right.now c.each.words.items c.requires (omega arith) (λ k h. c.each.invariant.1 k (omega arith))

use Rattle.std.proofs.Common.{arith}
use Rattle.vx_words.proofs.BitLemmas.{bits_without}
use Rattle.vx_words.proofs.bits.without.Goals as goal

pub returns-clause-bits : goal.returns-clause-bits
returns-clause-bits c =
    bits_without c.args.left.now c.args.right.now c.each.words.items (c.type_inv.right) c.requires (omega arith)
    (λ k h. c.each.invariant.1 k (omega arith))

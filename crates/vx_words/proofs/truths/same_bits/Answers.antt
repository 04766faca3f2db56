use Rattle.std.proofs.Common.{refl, arith}
use Rattle.vx_words.proofs.ListLemmas.{bits_by_words, same_word}
use Rattle.vx_words.proofs.truths.same_bits.Goals as goal

pub returns-then-l-k : goal.returns-then-l-k
returns-then-l-k c = (
  λ n. cc,
  λ each. absurd (c.if-l-k.true (same_word c.args.l.now c.args.r.now c.words.k (c.type_inv.l c.words.k) (c.type_inv.r c.words.k) each)),
)

pub returns : goal.returns
returns c = (λ _. bits_by_words c.args.l.now c.args.r.now c.requires (λ k h. c.words.invariant k (omega arith)), λ _. refl)

use Rattle.std.proofs.Common.{◌*◌, length, arith, subst}
use Rattle.vx_words.proofs.NextLemmas.{next_seen}
use Rattle.vx_words.proofs.TruthLemmas.{length_seen}
use Rattle.vx_words.specs.Words.{bit_of, IsNextPlace}
use Rattle.vx_words.proofs.truths.Truths.next_true.Goals as goal

pub returns-then-from-self : goal.returns-then-from-self
returns-then-from-self c = λ i lo hi. let long = length_seen _ _ _ _ c.self.view_is in absurd (omega arith)

pub returns : goal.returns
returns c =
    next_seen c.self.inside.valid.items c.self.inside.values.items c.self.inside.len c.args.self.now c.self.view_is c.self.invariant c.args.from _
    (subst (λ b. IsNextPlace (bit_of b) (64 * length b) c.args.from c.next_bit.result) c.as_slice.ensures.value c.next_bit.ensures)

use Rattle.std.proofs.Common.{◌≡◌, ℕ, ◌*◌, ◌<◌, ◌≤◌, false}
use Rattle.vx_words.specs.Words.{bit_of}
use Rattle.vx_words.proofs.bits.next_bit.Given as goal

abbrev pub invariant-words : goal.invariant-words
invariant-words l = (i : ℕ) → l.from ≤ i → i < 64 * l.k → bit_of l.words i ≡ false

use Rattle.std.proofs.Common.{◌≡◌, ℕ, ◌<◌, get_or, length, w64}
use Rattle.std.specs.Int.{bit_not}
use Rattle.std.specs.Prelude.{bit_and}
use Rattle.vx_words.proofs.bits.without.Given as goal

abbrev pub invariant-each : goal.invariant-each
invariant-each l =
    (length l.words.items ≡ l.k)
    × ((j : ℕ) → j < l.k → get_or l.words.items j 0 ≡ bit_and (get_or l.left j 0) (bit_not w64 (get_or l.right j 0)))

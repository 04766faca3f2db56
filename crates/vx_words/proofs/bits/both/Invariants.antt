use Rattle.std.proofs.Common.{◌≡◌, ℕ, ◌<◌, get_or, length}
use Rattle.std.specs.Prelude.{bit_and}
use Rattle.vx_words.proofs.bits.both.Given as goal

abbrev pub invariant-each : goal.invariant-each
invariant-each l = (length l.words.items ≡ l.k) × ((j : ℕ) → j < l.k → get_or l.words.items j 0 ≡ bit_and (get_or l.left j 0) (get_or l.right j 0))

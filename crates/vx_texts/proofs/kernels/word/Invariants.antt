use Rattle.std.proofs.Common.{◌≡◌, ℕ, ◌+◌, ◌&&◌, nat_lt}
use Rattle.vx_words.specs.Words.{word_bit}
use Rattle.vx_texts.proofs.kernels.word.Given as goal

abbrev pub invariant-places : goal.invariant-places
invariant-places g l = (i : ℕ) → word_bit l.word i ≡ (nat_lt i l.j && g.T.PlaceTest.answer l.test (l.from + i))

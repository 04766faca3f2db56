use Rattle.std.proofs.Common.{◌≡◌, ℕ, ◌&&◌, map, nat_lt}
use Rattle.vx_words.specs.Words.{word_bit}
use Rattle.vx_numbers.specs.Lanes.{holds_with}
use Rattle.vx_numbers.proofs.kernels.word_with.Given as goal

abbrev pub invariant-places : goal.invariant-places
invariant-places g l = (i : ℕ) → word_bit l.word i ≡ (nat_lt i l.j && holds_with g.O.Operator.operator (map g.T.Width.value l.left) (g.T.Width.value l.right) i)

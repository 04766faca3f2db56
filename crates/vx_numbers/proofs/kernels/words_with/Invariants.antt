use Rattle.std.proofs.Common.{◌*◌, ◌&&◌, map}
use Rattle.vx_words.specs.Words.{bit_of}
use Rattle.vx_numbers.specs.Lanes.{AreBits, holds_with}
use Rattle.vx_numbers.proofs.kernels.words_with.Given as goal

abbrev pub invariant-full : goal.invariant-full
invariant-full g l =
    AreBits l.words.items (64 * l.k) (λ i. holds_with g.O.Operator.operator (map g.T.Width.value l.left) (g.T.Width.value l.right) i && bit_of l.known i)

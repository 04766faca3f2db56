use Rattle.std.proofs.Common.{◌*◌, ◌&&◌, map}
use Rattle.vx_words.specs.Words.{bit_of}
use Rattle.vx_numbers.specs.Lanes.{AreBits, holds_at}
use Rattle.vx_numbers.proofs.kernels.words.Given as goal

abbrev pub invariant-full : goal.invariant-full
invariant-full g l =
    AreBits l.words.items (64 * l.k) (λ i. holds_at g.O.Operator.operator (map g.T.Width.value l.left) (map g.T.Width.value l.right) i && bit_of l.known i)

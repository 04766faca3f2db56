use Rattle.std.proofs.Common.{◌*◌, ◌&&◌}
use Rattle.vx_words.specs.Words.{bit_of}
use Rattle.vx_texts.specs.Layouts.{AreBits}
use Rattle.vx_texts.proofs.kernels.words.Given as goal

abbrev pub invariant-full : goal.invariant-full
invariant-full g l = AreBits l.words.items (64 * l.k) (λ i. g.T.PlaceTest.answer l.test i && bit_of l.known i)

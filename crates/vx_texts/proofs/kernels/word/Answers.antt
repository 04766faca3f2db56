use Rattle.std.proofs.Common.{◌+◌, arith}
use Rattle.vx_texts.proofs.TestBits.{one_bit_more}
use Rattle.vx_texts.proofs.kernels.word.Goals as goal

pub places-preserved : goal.places-preserved
places-preserved g c =
    one_bit_more (λ i. g.T.PlaceTest.answer c.args.test.now (c.args.from + i)) c.places.word c.places.j c.from.result c.at.result (omega arith)
    c.from.ensures c.at.ensures c.places.invariant

pub overflow_add-from : goal.overflow_add-from
overflow_add-from g c = record { fits = omega (arith, c.requires.counted, c.places-test.true) }

use Rattle.std.proofs.Common.{◌<◌, length, arith}
use Rattle.vx_numbers.proofs.PlaceLemmas.{value_read}
use Rattle.vx_numbers.proofs.TestBits.{holds_with_one_more}
use Rattle.vx_numbers.proofs.kernels.word_with.Goals as goal

pub places-preserved : goal.places-preserved
places-preserved g c =
    let f = g.T.Width.value in
    let j = c.places.j in
    let low : j < length c.args.left.now = omega arith in
    holds_with_one_more g.O.Operator.operator _ _ c.places.word j c.from.result c.holds.result _ (omega arith) c.from.ensures c.holds.ensures
    (value_read f c.args.left.now j c.index-left-j.result low c.index-left-j.is) c.places.invariant

use Rattle.std.proofs.Common.{◌+◌, ◌*◌, ◌/◌, ◌-◌, length, arith}
use Rattle.vx_numbers.proofs.TestBits.{words_with_more}
use Rattle.vx_numbers.proofs.kernels.words_with.Goals as goal

pub full-preserved : goal.full-preserved
full-preserved g c =
    rw c.in_ok-push.ensures.items
    (words_with_more g.T.Width.value g.O.Operator.operator c.args.known.now c.args.left.now c.full.words.items c.full.k c.full.k (c.full.k * 64) (c.full.k * 64 + 64 - c.full.k * 64) c.word_with.result _
    (omega arith) (omega arith) (omega arith) (omega arith) (omega arith) (omega arith) _ c.full.invariant c.word_with.ensures)

pub returns : goal.returns
returns g c =
    let n = length c.args.left.now in
    rw c.in_ok-push-2.ensures.items
    (words_with_more g.T.Width.value g.O.Operator.operator c.args.known.now c.args.left.now c.full.words.items c.full.k (n / 64) (n / 64 * 64) (n - n / 64 * 64) c.word_with-2.result n
    (omega arith) (omega arith) (omega arith) (omega arith) (omega arith) (omega arith) _ c.full.invariant c.word_with-2.ensures)

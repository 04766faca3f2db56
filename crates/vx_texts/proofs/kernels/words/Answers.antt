use Rattle.std.proofs.Common.{◌*◌, ◌/◌, ◌-◌, refl, arith}
use Rattle.vx_texts.proofs.TestBits.{words_more}
use Rattle.vx_texts.proofs.kernels.words.Goals as goal

pub full-preserved : goal.full-preserved
full-preserved g c =
    rw c.in_ok-push.ensures.items
    (words_more (g.T.PlaceTest.answer c.args.test.now) c.args.known.now c.full.words.items c.full.k c.full.k (c.full.k * 64) 64 c.word.result _
    refl (omega arith) (omega arith) (omega arith) (omega arith) c.full.invariant c.word.ensures)

pub returns : goal.returns
returns g c =
    let n = c.args.len in
    rw c.in_ok-push-2.ensures.items
    (words_more (g.T.PlaceTest.answer c.args.test.now) c.args.known.now c.full.words.items c.full.k (n / 64) (n / 64 * 64) (n - n / 64 * 64) c.word-2.result n
    (omega arith) (omega arith) (omega arith) (omega arith) (omega arith) c.full.invariant c.word-2.ensures)

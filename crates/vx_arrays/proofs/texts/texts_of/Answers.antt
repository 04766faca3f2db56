use Rattle.std.proofs.Common.{arith}
use Rattle.std.proofs.lemmas.Result.{err_from_is_err_and}
use Rattle.vx_arrays.proofs.TextLemmas.{place_at, texts_refused, texts_more}
use Rattle.vx_arrays.proofs.texts.texts_of.Goals as goal

pub text_or_null-requires-clause-place : goal.text_or_null-requires-clause-place
text_or_null-requires-clause-place c =
    place_at c.args.offsets.now c.args.bytes.now c.args.rows c.loop-i.i c.requires (omega (arith, c.loop-i-test.true))

pub returns-in_err-text_or_null : goal.returns-in_err-text_or_null
returns-in_err-text_or_null c =
    let p = err_from_is_err_and c.from_residual-in_err-text_or_null.result c.from_residual-in_err-text_or_null.ensures.1 in
    rw (p.1, p.2)
    (texts_refused c.args.validity.now c.args.offsets.now c.args.bytes.now c.args.rows c.loop-i.i (omega (arith, c.loop-i-test.true)) c.loop-i.invariant.1
    c.in_err-text_or_null.field-0.0 c.in_err-text_or_null.ensures)

pub loop-i-preserved : goal.loop-i-preserved
loop-i-preserved c =
    texts_more c.args.validity.now c.args.offsets.now c.args.bytes.now c.args.rows c.loop-i.i (omega (arith, c.loop-i-test.true)) c.loop-i.invariant.1
    c.loop-i.texts.items c.push.new.self.items c.in_ok-text_or_null.field-0 c.in_ok-text_or_null.ensures c.in_ok-push.ensures.items c.loop-i.invariant.0

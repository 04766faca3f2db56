use Rattle.std.proofs.Common.{◌≡◌, true, ◌∙◌, sym, arith}
use Rattle.std.specs.List.{list_all, range_with_len}
use Rattle.vx_arrays.specs.Arrays.{has_place}
use Rattle.vx_arrays.proofs.RangeLemmas.{all_holds}
use Rattle.vx_arrays.proofs.texts.has_places.Goals as goal

pub loop-i-preserved : goal.loop-i-preserved
loop-i-preserved c =
    let p = has_place c.args.offsets.now c.args.bytes.now in
    let holds : p c.loop-i.i ≡ true = sym c.has_place.ensures ∙ c.if-not-has_place.false in
    all_holds p c.loop-i.i c.args.rows (list_all p (range_with_len 0 c.args.rows)) (omega (arith, c.loop-i-test.true)) c.loop-i.invariant holds

use Rattle.std.proofs.Common.{drop, arith}
use Rattle.std.proofs.lemmas.List.{length-drop}
use Rattle.vx_arrays.proofs.BitmapLemmas.{byte_of_lt, from_bool_lt}
use Rattle.vx_arrays.proofs.bitmaps.byte_of.Goals as goal

pub overflow_mul-byte : goal.overflow_mul-byte
overflow_mul-byte c =
    let flags = c.args.flags.now in
    let left = c.loop-left.left in
    let few = byte_of_lt 7 (drop left flags) (omega (arith, length-drop left flags, c.requires, c.loop-left-test.true)) in
    record { fits = omega (arith, c.loop-left.invariant.1, few) }

pub overflow_add-byte : goal.overflow_add-byte
overflow_add-byte c =
    let flags = c.args.flags.now in
    let left = c.loop-left.left in
    let few = byte_of_lt 7 (drop left flags) (omega (arith, length-drop left flags, c.requires, c.loop-left-test.true)) in
    record { fits = omega (arith, c.loop-left.invariant.1, few, c.from.ensures, from_bool_lt) }

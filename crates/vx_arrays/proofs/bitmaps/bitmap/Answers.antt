use Rattle.std.proofs.Common.{◌∙◌, ◌++◌, ◌∷◌, [], sym, arith}
use Rattle.std.proofs.lemmas.List.FromFn.{map-range_with_len_more}
use Rattle.vx_arrays.specs.Bitmaps.{byte_at}
use Rattle.vx_arrays.proofs.bitmaps.bitmap.Goals as goal

pub loop-k-preserved : goal.loop-k-preserved
loop-k-preserved c =
    let k = c.loop-k.k in
    c.in_ok-push.ensures.items
    ∙ (λ j. c.loop-k.invariant j ++ c.byte_at.ensures j ∷ [])
    ∙ sym (map-range_with_len_more (byte_at c.args.flags.now) 0 k k (omega arith))

use Rattle.std.proofs.Common.{◌∙◌, ◌++◌, ◌∷◌, [], sym}
use Rattle.vx_arrays.specs.Bitmaps.{bit_at}
use Rattle.vx_arrays.proofs.RangeLemmas.{cells_more}
use Rattle.vx_arrays.proofs.truths.truths_of.Goals as goal

pub loop-i-preserved : goal.loop-i-preserved
loop-i-preserved c =
    c.in_ok-push.ensures.items
    ∙ (λ j. c.loop-i.invariant j ++ c.truth_at.ensures j ∷ [])
    ∙ sym (cells_more c.args.validity.now (bit_at c.args.values.now) c.loop-i.i)

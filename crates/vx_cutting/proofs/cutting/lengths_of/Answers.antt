use Rattle.std.proofs.Common.{◌∙◌, sym, ◌++◌, ◌∷◌, [], arith}
use Rattle.std.proofs.lemmas.List.FromFn.{map-range_with_len_more}
use Rattle.vx_cutting.specs.Cutting.{length_cut}
use Rattle.vx_cutting.proofs.cutting.lengths_of.Goals as goal

pub loop-block-preserved : goal.loop-block-preserved
loop-block-preserved c =
    let block = c.loop-block.block in
    c.in_ok-push.ensures.items ∙ (λ i. c.loop-block.invariant i ++ c.length_of.ensures i ∷ [])
    ∙ sym (map-range_with_len_more (length_cut c.args.most c.args.rows) 0 block block (omega arith))

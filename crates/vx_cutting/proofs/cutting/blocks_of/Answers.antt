use Rattle.std.proofs.Common.{◌∙◌, sym, ap, ◌++◌, ◌∷◌, [], map, arith}
use Rattle.std.proofs.lemmas.List.{map_push}
use Rattle.std.proofs.lemmas.List.FromFn.{map-range_with_len_more}
use Rattle.vx_tables.specs.Blocks.{block_view}
use Rattle.vx_cutting.specs.Cutting.{block_cut}
use Rattle.vx_cutting.proofs.cutting.blocks_of.Goals as goal

pub loop-block-preserved : goal.loop-block-preserved
loop-block-preserved c =
    let block = c.loop-block.block in
    ap (map block_view) c.in_ok-push.ensures.items ∙ map_push block_view c.loop-block.blocks.items c.in_ok-block_of.field-0
    ∙ (λ i. c.loop-block.invariant i ++ c.in_ok-block_of.ensures i ∷ [])
    ∙ sym (map-range_with_len_more (block_cut c.args.most c.args.columns.now) 0 block block (omega arith))

use Rattle.std.proofs.Common.{◌∙◌, ap, map, ◌∷◌, []}
use Rattle.std.proofs.lemmas.List.{map-append}
use Rattle.vx_tables.specs.Blocks.{block_view}
use Rattle.vx_generated.specs.GeneratedBlocks.{columns_in}
use Rattle.vx_generated.proofs.NumberLemmas.{more-from_zero}
use Rattle.vx_generated.proofs.blocks.blocks.Goals as goal

pub loop-block-preserved : goal.loop-block-preserved
loop-block-preserved c =
    more-from_zero (columns_in c.args.rows) c.loop-block.block (map block_view c.loop-block.blocks.items) (map block_view c.push.new.self.items)
    (block_view c.in_ok-columns_in.field-0)
    (ap (map block_view) c.in_ok-push.ensures.items ∙ map-append block_view c.loop-block.blocks.items (c.in_ok-columns_in.field-0 ∷ []))
    c.loop-block.invariant c.in_ok-columns_in.ensures

use Rattle.vx_laws_generated.specs.GeneratedTable.{block_length}
use Rattle.vx_generated.proofs.NumberLemmas.{more-from_zero}
use Rattle.vx_generated.proofs.statistics.lengths.Goals as goal

pub loop-block-preserved : goal.loop-block-preserved
loop-block-preserved c =
    more-from_zero (block_length c.args.rows) c.loop-block.block c.loop-block.lengths.items c.push.new.self.items c.block_length.result
    c.in_ok-push.ensures.items c.loop-block.invariant c.block_length.ensures

use Rattle.std.proofs.Common.{sym}
use Rattle.vx_tables.proofs.BlockLemmas.{blocks_uneven}
use Rattle.vx_tables.proofs.tables.blocks_long.Goals as goal

pub returns-then-blocks-lengths : goal.returns-then-blocks-lengths
returns-then-blocks-lengths c = sym (blocks_uneven c.args.width c.args.lengths.now c.args.blocks.now c.if-blocks-lengths.true)

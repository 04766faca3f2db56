use Rattle.vx_laws_generated.proofs.Blocks.{blocks_hold_all_rows}
use Rattle.vx_laws_generated.proofs.tables.blocks_hold_all_rows.Goals as goal

pub returns : goal.returns
returns c = blocks_hold_all_rows

use Rattle.vx_laws_stats.proofs.HonestBlocks.{no_row_lost}
use Rattle.vx_laws_stats.proofs.built.built_statistics_lose_no_row.Goals as goal

pub returns : goal.returns
returns c = no_row_lost

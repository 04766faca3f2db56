use Rattle.vx_laws_stats.proofs.HonestBlocks.{honest}
use Rattle.vx_laws_stats.proofs.built.built_statistics_are_honest.Goals as goal

pub returns : goal.returns
returns c = honest

use Rattle.vx_laws.proofs.Comparing.{range_means}
use Rattle.vx_laws.proofs.operators.range_means_its_comparisons.Goals as goal

pub returns : goal.returns
returns c = range_means

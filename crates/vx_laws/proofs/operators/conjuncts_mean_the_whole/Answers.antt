use Rattle.vx_laws.proofs.Conjunctions.{conjuncts_mean_whole}
use Rattle.vx_laws.proofs.operators.conjuncts_mean_the_whole.Goals as goal

pub returns : goal.returns
returns c = conjuncts_mean_whole

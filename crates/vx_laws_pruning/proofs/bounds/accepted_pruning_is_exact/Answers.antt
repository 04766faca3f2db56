use Rattle.vx_laws_pruning.proofs.Bounded.{accepted_pruning_is_exact}
use Rattle.vx_laws_pruning.proofs.bounds.accepted_pruning_is_exact.Goals as goal

pub returns : goal.returns
returns c = accepted_pruning_is_exact

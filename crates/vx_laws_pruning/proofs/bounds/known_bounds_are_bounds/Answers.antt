use Rattle.vx_laws_pruning.proofs.Bounded.{known_bounds_are_bounds}
use Rattle.vx_laws_pruning.proofs.bounds.known_bounds_are_bounds.Goals as goal

pub returns : goal.returns
returns c = known_bounds_are_bounds

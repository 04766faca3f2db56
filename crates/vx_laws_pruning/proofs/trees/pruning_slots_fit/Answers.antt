use Rattle.vx_laws_pruning.proofs.SlotsKept.{pruning_slots_fit}
use Rattle.vx_laws_pruning.proofs.trees.pruning_slots_fit.Goals as goal

pub returns : goal.returns
returns c = pruning_slots_fit

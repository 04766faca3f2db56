use Rattle.vx_laws_pruning.proofs.TreeTypes.{pruning_tree_never_breaks}
use Rattle.vx_laws_pruning.proofs.trees.pruning_tree_never_breaks.Goals as goal

pub returns : goal.returns
returns c = pruning_tree_never_breaks

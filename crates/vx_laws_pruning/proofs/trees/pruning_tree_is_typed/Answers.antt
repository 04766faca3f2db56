use Rattle.vx_laws_pruning.proofs.TreeTypes.{pruning_tree_is_typed}
use Rattle.vx_laws_pruning.proofs.trees.pruning_tree_is_typed.Goals as goal

pub returns : goal.returns
returns c = pruning_tree_is_typed

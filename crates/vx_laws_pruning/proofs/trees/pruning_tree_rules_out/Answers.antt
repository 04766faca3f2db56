use Rattle.vx_laws_pruning.proofs.Ruling.{pruning_tree_rules_out}
use Rattle.vx_laws_pruning.proofs.trees.pruning_tree_rules_out.Goals as goal

pub returns : goal.returns
returns c = pruning_tree_rules_out

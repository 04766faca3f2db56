use Rattle.vx_traversal.specs.Expressions.{node_height}
use Rattle.vx_base_tests.proofs.CallLemmas.{unless, gives-row}
use Rattle.vx_base_tests.proofs.expression_walks.to_root.Goals as goal

pub returns : goal.returns
returns c = unless c.rewrite.result _ _ (gives-row (node_height c.args.expr) _ c.args.expr c.rewrite.result _) c.rewrite.ensures

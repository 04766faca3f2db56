use Rattle.vx_traversal.proofs.UpStepLemmas.{made-turns}
use Rattle.vx_traversal.proofs.up_step.UpStepsErrorFoldSteps.down.Goals as goal

pub returns-in-None : goal.returns-in-None
returns-in-None g c =
    made-turns g.S.NodeTy.Node.children g.S.NodeTy.Node.is_with g.S.UpStep.makes g.S.NodeTy.Node.height g.met.S.NodeTy.Node.child_is_lower c.args.self.now c.args._node.now c.in-None.is

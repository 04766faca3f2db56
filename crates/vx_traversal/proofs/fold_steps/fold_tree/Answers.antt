use Rattle.std.proofs.Common.{refl, subst}
use Rattle.vx_traversal.specs.FoldTurns.{StepsDown}
use Rattle.vx_traversal.proofs.FoldTurnLemmas.{first}
use Rattle.vx_traversal.proofs.fold_steps.fold_tree.Goals as goal

pub loop-init : goal.loop-init
loop-init g c =
    let turns = subst (λ o. StepsDown g.F.FoldSteps.ready g.F.FoldSteps.folds g.F.NodeTy.Node.children g.F.FoldSteps.gathers c.args.steps.now c.args.tree.now o c.down.new.self) c.in_default.is c.in_ok-given.ensures in
    first g.F.NodeTy.Node.children g.F.FoldSteps.ready g.F.FoldSteps.folds g.F.FoldSteps.gathers c.args.steps.now c.args.tree.now (record { node = c.args.tree; count = c.children_count.result; results = c.new.result }) c.new-outer.result.items c.down.new.self c.new-outer.ensures.items refl c.children_count.ensures c.new.ensures.items turns

use Rattle.vx_traversal.specs.FoldPending.{Pending}
use Rattle.vx_traversal.proofs.fold_steps.fold_tree.Given as goal

-- what is left of the frames gives what the fold does to the tree
abbrev pub invariant-loop : goal.invariant-loop
invariant-loop g l =
    Pending g.F.NodeTy.Node.children g.F.FoldSteps.ready g.F.FoldSteps.folds g.F.FoldSteps.gathers (g.F.FoldSteps.folds l.fn.steps l.fn.tree) l.outer.items l.frame l.steps

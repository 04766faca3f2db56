use Rattle.std.proofs.Common.{[]}
use Rattle.vx_traversal.specs.Folds.{FoldsInTurn, FoldsUnder}
use Rattle.vx_traversal.specs.FoldFrames.{FrameLeft, FramesLeft}
use Rattle.vx_traversal.proofs.folding.fold_children.Given as goal

-- what is left of the frames was left of the node
abbrev pub invariant-loop : goal.invariant-loop
invariant-loop g l = (r t : _) → FramesLeft g.F.NodeTy.Node.children g.F.Folding.goes_down g.F.Folding.goes_up g.F.NodeTy.Node.height l.ctx l.outer.items (λ d. FrameLeft g.F.NodeTy.Node.children g.F.Folding.goes_down g.F.Folding.goes_up g.F.NodeTy.Node.height d l.frame l.folder) r t
    → FoldsInTurn (FoldsUnder g.F.NodeTy.Node.children g.F.Folding.goes_down g.F.Folding.goes_up g.F.NodeTy.Node.height) l.fn.inner (λ state results. g.F.Folding.goes_up state l.fn.node l.fn.ctx results) [] l.fn.folder (g.F.NodeTy.Node.children l.fn.node) r t

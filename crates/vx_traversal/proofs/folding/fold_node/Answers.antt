use Rattle.std.proofs.Common.{Ok}
use Rattle.vx_traversal.specs.Folds.{AfterDown, FoldsUnder}
use Rattle.vx_traversal.proofs.RewriteLemmas.{unless-map}
use Rattle.vx_traversal.proofs.FoldLemmas.{FoldsUnder-after}
use Rattle.vx_traversal.proofs.folding.fold_node.Goals as goal

pub returns : goal.returns
returns g c =
    unless-map c.fold_after_down.result
    (AfterDown g.F.NodeTy.Node.children g.F.Folding.goes_down g.F.Folding.goes_up (FoldsUnder g.F.NodeTy.Node.children g.F.Folding.goes_down g.F.Folding.goes_up g.F.NodeTy.Node.height) c.args.ctx.now c.args.node (Ok c.in_ok-answer.answer) c.go_down.new.self c.fold_after_down.result c.fold_after_down.new.folder)
    (FoldsUnder g.F.NodeTy.Node.children g.F.Folding.goes_down g.F.Folding.goes_up g.F.NodeTy.Node.height c.args.folder.now c.args.ctx.now c.args.node c.fold_after_down.result c.fold_after_down.new.folder)
    (FoldsUnder-after g.F.NodeTy.Node.children g.F.Folding.goes_down g.F.Folding.goes_up g.F.NodeTy.Node.height g.met.F.NodeTy.Node.child_is_lower c.args.folder.now c.args.ctx.now c.args.node c.in_ok-answer.answer c.go_down.new.self c.fold_after_down.result c.fold_after_down.new.folder c.in_ok-answer.ensures)
    c.fold_after_down.ensures

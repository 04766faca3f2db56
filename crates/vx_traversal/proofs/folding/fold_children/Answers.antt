use Rattle.std.proofs.Common.{rules, ◌≡◌, subst, Ok, Err, []}
use Rattle.vx_traversal.specs.Folds.{FoldsInTurn, FoldsUnder}
use Rattle.vx_traversal.specs.FoldFrames.{StepsOn}
use Rattle.vx_traversal.proofs.FoldFrameLemmas.{ends-errs}
use Rattle.vx_traversal.proofs.folding.fold_children.Goals as goal

pub returns-in_err-given : goal.returns-in_err-given
returns-in_err-given g c =
    let is : c.from_residual.result ≡ Err c.in_err-given.field-0.0 = search rules in
    ends-errs g.F.NodeTy.Node.children g.F.Folding.goes_down g.F.Folding.goes_up g.F.NodeTy.Node.height c.loop.outer.items c.fold_step.new.outer.items c.loop.frame c.loop.folder c.args.ctx.now c.in_err-given.field-0.0 c.from_residual.result c.fold_step.new.folder
    (λ q. FoldsInTurn (FoldsUnder g.F.NodeTy.Node.children g.F.Folding.goes_down g.F.Folding.goes_up g.F.NodeTy.Node.height) c.args.inner (λ state results. g.F.Folding.goes_up state c.args.node c.args.ctx.now results) [] c.args.folder.now (g.F.NodeTy.Node.children c.args.node) q c.fold_step.new.folder)
    is c.in_err-given.ensures (c.loop.invariant (Err c.in_err-given.field-0.0) c.fold_step.new.folder)

pub loop-preserved : goal.loop-preserved
loop-preserved g c = λ r t left.
    c.loop.invariant r t
    (subst (λ next. StepsOn g.F.NodeTy.Node.children g.F.Folding.goes_down g.F.Folding.goes_up g.F.NodeTy.Node.height c.args.ctx.now c.loop.outer.items c.loop.frame c.loop.folder (Ok next) c.fold_step.new.outer.items c.fold_step.new.folder) c.in-Goes.is c.in_ok-given.ensures r t left)

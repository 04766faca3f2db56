use Rattle.std.proofs.Common.{rules, ◌≡◌, subst, Ok, Err}
use Rattle.vx_traversal.specs.declared.fold.FoldUp.TheVariants.{Continue, Stop}
use Rattle.vx_traversal.specs.FoldFrames.{context_below}
use Rattle.vx_traversal.proofs.FoldFrameLemmas.{errs, up-errs, up-stops, up-goes}
use Rattle.vx_traversal.proofs.folding.fold_up.Goals as goal

pub returns-in_err-given : goal.returns-in_err-given
returns-in_err-given g c =
    let is : c.from_residual.result ≡ Err c.in_err-given.field-0.0 = search rules in
    errs g.F.NodeTy.Node.children g.F.Folding.goes_down g.F.Folding.goes_up g.F.NodeTy.Node.height c.args.outer.now.items c.args.outer.now.items c.args.frame c.args.folder.now c.args.ctx.now c.in_err-given.field-0.0 c.from_residual.result c.frame_up.new.folder is
    (up-errs g.F.NodeTy.Node.children g.F.Folding.goes_down g.F.Folding.goes_up g.F.NodeTy.Node.height c.args.outer.now.items c.deref.result.now c.deref.ensures.value c.args.frame c.args.folder.now c.requires c.frame_up.new.folder c.args.ctx.now c.in_err-given.field-0.0 c.in_err-given.ensures)

pub returns-in-Stop : goal.returns-in-Stop
returns-in-Stop g c =
    let step : g.F.Folding.goes_up c.args.folder.now c.args.frame.node (context_below c.args.ctx.now c.deref.result.now) c.args.frame.results.items (Ok (Stop c.in-Stop.given)) c.frame_up.new.folder =
    subst (λ x. g.F.Folding.goes_up c.args.folder.now c.args.frame.node (context_below c.args.ctx.now c.deref.result.now) c.args.frame.results.items (Ok x) c.frame_up.new.folder) c.in-Stop.is c.in_ok-given.ensures in
    up-stops g.F.NodeTy.Node.children g.F.Folding.goes_down g.F.Folding.goes_up g.F.NodeTy.Node.height c.args.outer.now.items c.deref.result.now c.deref.ensures.value c.args.frame c.args.folder.now c.requires c.frame_up.new.folder c.args.ctx.now c.in-Stop.given step

pub returns-in_ok-with_result-in-Some : goal.returns-in_ok-with_result-in-Some
returns-in_ok-with_result-in-Some g c =
    let step : g.F.Folding.goes_up c.args.folder.now c.args.frame.node (context_below c.args.ctx.now c.deref.result.now) c.args.frame.results.items (Ok (Continue c.in-Continue.given)) c.frame_up.new.folder =
    subst (λ x. g.F.Folding.goes_up c.args.folder.now c.args.frame.node (context_below c.args.ctx.now c.deref.result.now) c.args.frame.results.items (Ok x) c.frame_up.new.folder) c.in-Continue.is c.in_ok-given.ensures in
    up-goes g.F.NodeTy.Node.children g.F.Folding.goes_down g.F.Folding.goes_up g.F.NodeTy.Node.height c.args.outer.now.items c.deref.result.now c.deref.ensures.value c.args.frame c.args.folder.now c.requires c.frame_up.new.folder c.args.ctx.now c.in-Continue.given c.in-Some.above c.in_ok-with_result-in-Some.field-0 c.pop.new.self.items c.in-Some.ensures.items c.in_ok-with_result-in-Some.ensures step

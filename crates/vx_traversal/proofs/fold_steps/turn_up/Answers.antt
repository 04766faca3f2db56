use Rattle.std.proofs.Common.{subst, sym}
use Rattle.vx_traversal.specs.FoldPending.{HasOneResultMore}
use Rattle.vx_traversal.proofs.FoldTurnLemmas.{up-goes, up-ready}
use Rattle.vx_traversal.proofs.fold_steps.turn_up.Goals as goal

pub up-requires : goal.up-requires
up-requires g c =
    let frame = c.args.frame.now in
    let ready = up-ready g.F.NodeTy.Node.children g.F.FoldSteps.ready g.F.FoldSteps.folds g.F.FoldSteps.gathers frame c.args.steps.now c.requires.past (g.F.FoldSteps.folds c.requires.pending.0 c.requires.pending.1) c.args.outer.now.items c.requires.pending.2 in
    (ready.0, subst (λ rs. g.F.FoldSteps.gathers ready.0 frame.node.now rs c.args.steps.now) (sym c.as_slice.ensures.value) ready.1)

pub returns-in_ok-add_result-in-Some : goal.returns-in_ok-add_result-in-Some
returns-in_ok-add_result-in-Some g c = λ start tree.
    let frame = c.args.frame.now in
    let folded : (from : g.row.F.Denot) → g.F.FoldSteps.gathers from frame.node.now frame.results.items c.args.steps.now → g.F.FoldSteps.folds from frame.node.now c.in_ok-given.given c.up.new.self =
    λ from gathered. c.in_ok-given.ensures from (subst (λ rs. g.F.FoldSteps.gathers from frame.node.now rs c.args.steps.now) (sym c.as_slice.ensures.value) gathered) in
    up-goes g.F.NodeTy.Node.children g.F.FoldSteps.ready g.F.FoldSteps.folds g.F.FoldSteps.gathers frame c.args.steps.now c.requires.past c.in_ok-given.given c.up.new.self folded c.in-Some.above c.add_result.new.frame c.args.outer.now.items c.pop.new.self.items c.in-Some.ensures.items
    (subst (λ f. HasOneResultMore f c.in_ok-given.given c.add_result.new.frame) c.replace-done.ensures.after c.in_ok-add_result-in-Some.ensures) (g.F.FoldSteps.folds start tree)

use Rattle.std.proofs.Common.{◌≡◌, arith, length, rules}
use Rattle.vx_traversal.proofs.FoldTurnLemmas.{pending-counted}
use Rattle.vx_traversal.proofs.fold_steps.turn.Goals as goal

pub turn_down-requires-clause-within : goal.turn_down-requires-clause-within
turn_down-requires-clause-within g c =
    let frame = c.args.frame.now in
    let counted : frame.count ≡ length (g.F.NodeTy.Node.children frame.node.now) = pending-counted g.F.NodeTy.Node.children g.F.FoldSteps.ready g.F.FoldSteps.folds g.F.FoldSteps.gathers (g.F.FoldSteps.folds c.requires.0 c.requires.1) c.args.outer.now.items frame c.args.steps.now c.requires.2 in
    let same : c.len.result ≡ length frame.results.items = search rules in
    omega (arith, c.if-len-frame.true, counted, same)

pub turn_up-requires-clause-past : goal.turn_up-requires-clause-past
turn_up-requires-clause-past g c =
    let frame = c.args.frame.now in
    let counted : frame.count ≡ length (g.F.NodeTy.Node.children frame.node.now) = pending-counted g.F.NodeTy.Node.children g.F.FoldSteps.ready g.F.FoldSteps.folds g.F.FoldSteps.gathers (g.F.FoldSteps.folds c.requires.0 c.requires.1) c.args.outer.now.items frame c.args.steps.now c.requires.2 in
    let same : c.len.result ≡ length frame.results.items = search rules in
    omega (arith, c.if-len-frame.false, counted, same)

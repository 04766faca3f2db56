use Rattle.std.proofs.Common.{rules, refl, sym, ap, subst, ◌∙◌, ◌≡◌, ◌++◌, ◌∷◌, [], length, Some, slice_get}
use Rattle.std.proofs.lemmas.List.{nil_from_length}
use Rattle.vx_traversal.specs.FoldTurns.{StepsDown}
use Rattle.vx_traversal.specs.FoldPending.{Pending}
use Rattle.vx_traversal.proofs.FoldTurnLemmas.{child-folded, child-goes, child-ready, leaf-ready}
use Rattle.vx_traversal.proofs.fold_steps.turn_down.Goals as goal

pub down-requires : goal.down-requires
down-requires g c =
    let frame = c.args.frame.now in
    let same : c.len.result ≡ length frame.results.items = search rules in
    let at : slice_get (g.F.NodeTy.Node.children frame.node.now) (length frame.results.items) ≡ Some c.node_child-child.result.now = subst (λ i. slice_get (g.F.NodeTy.Node.children frame.node.now) i ≡ Some c.node_child-child.result.now) same c.node_child-child.ensures in
    child-ready g.F.NodeTy.Node.children g.F.FoldSteps.ready g.F.FoldSteps.folds g.F.FoldSteps.gathers frame c.node_child-child.result.now at c.args.steps.now (g.F.FoldSteps.folds c.requires.pending.0 c.requires.pending.1) c.args.outer.now.items c.requires.pending.2

pub returns-in-Some : goal.returns-in-Some
returns-in-Some g c = λ start tree.
    let frame = c.args.frame.now in
    let same : c.len.result ≡ length frame.results.items = search rules in
    let at : slice_get (g.F.NodeTy.Node.children frame.node.now) (length frame.results.items) ≡ Some c.node_child-child.result.now = subst (λ i. slice_get (g.F.NodeTy.Node.children frame.node.now) i ≡ Some c.node_child-child.result.now) same c.node_child-child.ensures in
    let folded : g.F.FoldSteps.folds c.args.steps.now c.node_child-child.result.now c.in-Some.given c.down.new.self =
    subst (λ o. StepsDown g.F.FoldSteps.ready g.F.FoldSteps.folds g.F.NodeTy.Node.children g.F.FoldSteps.gathers c.args.steps.now c.node_child-child.result.now o c.down.new.self) c.in-Some.is c.in_ok-given.ensures in
    child-folded g.F.NodeTy.Node.children g.F.FoldSteps.ready g.F.FoldSteps.folds g.F.FoldSteps.gathers frame c.node_child-child.result.now at c.args.steps.now c.in-Some.given c.down.new.self c.add_result.new.frame folded c.in_ok-add_result.ensures (g.F.FoldSteps.folds start tree) c.args.outer.now.items

pub returns-then-count-eq0 : goal.returns-then-count-eq0
returns-then-count-eq0 g c = λ start tree.
    let frame = c.args.frame.now in
    let child = c.node_child-child.result.now in
    let same : c.len.result ≡ length frame.results.items = search rules in
    let at : slice_get (g.F.NodeTy.Node.children frame.node.now) (length frame.results.items) ≡ Some child = subst (λ i. slice_get (g.F.NodeTy.Node.children frame.node.now) i ≡ Some child) same c.node_child-child.ensures in
    let none : length (g.F.NodeTy.Node.children child) ≡ 0 = search rules in
    let turns = subst (λ o. StepsDown g.F.FoldSteps.ready g.F.FoldSteps.folds g.F.NodeTy.Node.children g.F.FoldSteps.gathers c.args.steps.now child o c.down.new.self) c.in_default.is c.in_ok-given.ensures in
    let gathered = leaf-ready g.F.NodeTy.Node.children g.F.FoldSteps.ready g.F.FoldSteps.folds g.F.FoldSteps.gathers frame child at c.args.steps.now c.down.new.self (nil_from_length (g.F.NodeTy.Node.children child) none) turns in
    let folded = c.in_ok-given-2.ensures c.args.steps.now gathered in
    child-folded g.F.NodeTy.Node.children g.F.FoldSteps.ready g.F.FoldSteps.folds g.F.FoldSteps.gathers frame child at c.args.steps.now c.in_ok-given-2.given c.up.new.self c.add_result-then-count-eq0.new.frame folded c.in_ok-add_result-2.ensures (g.F.FoldSteps.folds start tree) c.args.outer.now.items

pub returns : goal.returns
returns g c = λ start tree.
    let frame = c.args.frame.now in
    let child = c.node_child-child.result.now in
    let same : c.len.result ≡ length frame.results.items = search rules in
    let at : slice_get (g.F.NodeTy.Node.children frame.node.now) (length frame.results.items) ≡ Some child = subst (λ i. slice_get (g.F.NodeTy.Node.children frame.node.now) i ≡ Some child) same c.node_child-child.ensures in
    let turns = subst (λ o. StepsDown g.F.FoldSteps.ready g.F.FoldSteps.folds g.F.NodeTy.Node.children g.F.FoldSteps.gathers c.args.steps.now child o c.down.new.self) c.in_default.is c.in_ok-given.ensures in
    let pushed = c.in_ok-push.ensures.items ∙ ap (λ f. c.args.outer.now.items ++ f ∷ []) c.replace-above.ensures.value in
    λ pending. subst (λ f. Pending g.F.NodeTy.Node.children g.F.FoldSteps.ready g.F.FoldSteps.folds g.F.FoldSteps.gathers (g.F.FoldSteps.folds start tree) c.push.new.self.items f c.down.new.self) (sym c.replace-above.ensures.after)
    (child-goes g.F.NodeTy.Node.children g.F.FoldSteps.ready g.F.FoldSteps.folds g.F.FoldSteps.gathers frame child at c.args.steps.now c.down.new.self (record { node = c.node_child-child.result; count = c.children_count-count.result; results = c.emptied.result }) refl c.children_count-count.ensures c.emptied.ensures turns (g.F.FoldSteps.folds start tree) c.args.outer.now.items c.push.new.self.items pushed pending)

use Rattle.std.proofs.Common.{◌≡◌, ap, sym, subst, ◌∙◌}
use Rattle.std.specs.List.{slice_get}
use Rattle.std.proofs.lemmas.Option.{same_Some}
use Rattle.vx_expr.specs.Nodes.{between_tree, node_tree}
use Rattle.vx_expr.specs.Trees.{between, children_of}
use Rattle.vx_passes.specs.Falsifying.{negation_falsified}
use Rattle.vx_prune.specs.Finding.{Finds}
use Rattle.vx_prune.proofs.falsify.alone_negation_falsified.Goals as goal

pub returns-in-Between : goal.returns-in-Between
returns-in-Between g c =
    let node = c.in-Between.node in
    let expr : between_tree node ≡ c.args.expr.now = sym (ap node_tree c.in-Between.is) ∙ c.expr.ensures in
    let value = same_Some node.arr c.child_at-value.result.now (ap (λ e. slice_get (children_of e) 0) expr ∙ c.child_at-value.ensures) in
    let lower = same_Some node.lower c.child_at-lower.result.now (ap (λ e. slice_get (children_of e) 1) expr ∙ c.child_at-lower.ensures) in
    let upper = same_Some node.upper c.child_at-upper.result.now (ap (λ e. slice_get (children_of e) 2) expr ∙ c.child_at-upper.ensures) in
    let tree : between c.child_at-value.result.now c.child_at-lower.result.now c.child_at-upper.result.now c.options.result ≡ c.args.expr.now =
    (λ i. between (sym value i) (sym lower i) (sym upper i) (c.options.ensures i)) ∙ expr in
    subst (λ e. Finds g.C.StatsCatalog.answer g.C.StatsCatalog.asked (λ known. negation_falsified known e) c.args.catalog.now c.range_negation_falsified.new.catalog c.range_negation_falsified.result)
    tree c.range_negation_falsified.ensures

use Rattle.std.proofs.Common.{◌≡◌, ap, sym, subst, ◌∙◌}
use Rattle.std.proofs.lemmas.Result.{err_from_is_err_and}
use Rattle.vx_dtype.specs.TypeViews.{type_view}
use Rattle.vx_expr.specs.Nodes.{node_tree, merge_values, merge_nullability}
use Rattle.vx_expr.specs.Trees.{merge, trees_of, children_of}
use Rattle.vx_semantics.specs.Typing.{and_then}
use Rattle.vx_passes.specs.Merging.{givings_pack}
use Rattle.vx_laws_removing.specs.Walking.{pack_taken, givings_by_head}
use Rattle.vx_transform.specs.TransformAnswers.{Refuses}
use Rattle.vx_transform.proofs.WalkLemmas.{merge_by_children}
use Rattle.vx_transform.proofs.walking.WalkedNodeStep.at.Goals as goal

pub returns-in_err-walked_merge-in-Merge : goal.returns-in_err-walked_merge-in-Merge
returns-in_err-walked_merge-in-Merge c =
    let t = type_view c.args.self.now.scope.now in
    let e = c.args.node.now in
    let es = merge_values c.in-Merge.merge in
    let n = merge_nullability c.in-Merge.merge in
    let is : merge (trees_of es) n ≡ e = ap node_tree (sym c.in-Merge.is) ∙ c.expr.ensures in
    let r = c.in_err-walked_merge-in-Merge.field-0.0 in
    let p = err_from_is_err_and c.from_residual-in_err-walked_merge-in-Merge.result c.from_residual-in_err-walked_merge-in-Merge.ensures.1 in
    rw (p.1, p.2)
    (subst (λ told. Refuses told r)
    (ap (λ m. and_then (givings_by_head t (trees_of (children_of e))) (λ gs. pack_taken (givings_pack m gs))) c.nullability.ensures ∙ sym (merge_by_children t e es n is))
    c.in_err-walked_merge-in-Merge.ensures)

pub returns-in_ok-walked_merge-in-Merge : goal.returns-in_ok-walked_merge-in-Merge
returns-in_ok-walked_merge-in-Merge c =
    let t = type_view c.args.self.now.scope.now in
    let e = c.args.node.now in
    let es = merge_values c.in-Merge.merge in
    let n = merge_nullability c.in-Merge.merge in
    let is : merge (trees_of es) n ≡ e = ap node_tree (sym c.in-Merge.is) ∙ c.expr.ensures in
    merge_by_children t e es n is
    ∙ ap (λ m. and_then (givings_by_head t (trees_of (children_of e))) (λ gs. pack_taken (givings_pack m gs))) (sym c.nullability.ensures)
    ∙ c.in_ok-walked_merge-in-Merge.ensures

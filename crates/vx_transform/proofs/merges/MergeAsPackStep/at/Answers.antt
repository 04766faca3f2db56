use Rattle.std.proofs.Common.{◌≡◌, map, ap, sym, subst, ◌∙◌, Ok}
use Rattle.std.proofs.lemmas.Result.{err_from_is_err_and}
use Rattle.vx_dtype.specs.TypeViews.{type_view}
use Rattle.vx_expr.specs.Nodes.{node_tree, merge_values, merge_nullability}
use Rattle.vx_expr.specs.Trees.{merge, trees_of, children_of}
use Rattle.vx_semantics.specs.Typing.{and_then}
use Rattle.vx_passes.specs.Merging.{givings, givings_pack}
use Rattle.vx_transform.specs.CodeViews.{giving_view}
use Rattle.vx_transform.specs.TransformAnswers.{Refuses}
use Rattle.vx_transform.proofs.MergeLemmas.{merge_by_children}
use Rattle.vx_transform.proofs.RebuildLemmas.{handed_on}
use Rattle.vx_transform.proofs.merges.MergeAsPackStep.at.Goals as goal

pub returns-in_err-given : goal.returns-in_err-given
returns-in_err-given c =
    let t = type_view c.args.self.now.scope.now in
    let e = c.args.node.now in
    let es = merge_values c.in-Merge.merge in
    let n = merge_nullability c.in-Merge.merge in
    let is : merge (trees_of es) n ≡ e = ap node_tree (sym c.in-Merge.is) ∙ c.expr.ensures in
    let r = c.in_err-given.field-0.0 in
    let p = err_from_is_err_and c.from_residual.result c.from_residual.ensures.1 in
    rw (p.1, p.2)
    (subst (λ told. Refuses told r) (sym (merge_by_children t e es n is))
    (handed_on (givings t (trees_of (children_of e))) (λ gs. Ok (givings_pack n gs)) r c.in_err-given.ensures))

pub returns : goal.returns
returns c =
    let t = type_view c.args.self.now.scope.now in
    let e = c.args.node.now in
    let es = merge_values c.in-Merge.merge in
    let n = merge_nullability c.in-Merge.merge in
    let is : merge (trees_of es) n ≡ e = ap node_tree (sym c.in-Merge.is) ∙ c.expr.ensures in
    let made : c.in_ok-givings_pack.field-0 ≡ givings_pack n (map giving_view c.in_ok-given.given.items) =
    c.in_ok-givings_pack.ensures ∙ ap (λ gs. givings_pack c.nullability.result (map giving_view gs)) c.as_slice.ensures.value
    ∙ ap (λ m. givings_pack m (map giving_view c.in_ok-given.given.items)) c.nullability.ensures in
    merge_by_children t e es n is ∙ ap (λ told. and_then told (λ gs. Ok (givings_pack n gs))) c.in_ok-given.ensures ∙ ap Ok (sym made)

use Rattle.std.proofs.Common.{◌≡◌, map, ap, sym, subst, ◌∙◌}
use Rattle.vx_dtype.specs.TypeViews.{type_view}
use Rattle.vx_expr.specs.Trees.{trees_of, children_of}
use Rattle.vx_passes.specs.Merging.{givings_pack}
use Rattle.vx_transform.specs.CodeViews.{giving_view}
use Rattle.vx_transform.specs.Rebuilds.{children_taken}
use Rattle.vx_transform.specs.TransformAnswers.{AnswersTree}
use Rattle.vx_transform.proofs.WalkLemmas.{merge_taken}
use Rattle.vx_transform.proofs.walking.walked_merge.Goals as goal

pub returns : goal.returns
returns c =
    let t = type_view c.args.scope.now in
    let es = trees_of (children_of c.args.node.now) in
    let n = c.args.nullability in
    let gs = map giving_view c.in_ok-given.given.items in
    let made : c.in_ok-pack.pack ≡ givings_pack n gs = c.in_ok-pack.ensures ∙ ap (λ xs. givings_pack n (map giving_view xs)) c.as_slice.ensures.value in
    subst (λ told. AnswersTree told c.values_taken.result) (ap children_taken made ∙ sym (merge_taken t es n gs c.in_ok-given.ensures)) c.values_taken.ensures

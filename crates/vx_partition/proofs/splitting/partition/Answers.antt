use Rattle.std.proofs.Common.{[], map, ap, sym, subst, ◌∙◌}
use Rattle.std.proofs.lemmas.Result.{err_from_is_err_and}
use Rattle.vx_dtype.specs.TypeViews.{type_view}
use Rattle.vx_passes.specs.Annotating.{annotated}
use Rattle.vx_passes.specs.Splitting.{taken_from, with_root}
use Rattle.vx_transform.specs.TransformAnswers.{AnswersBy}
use Rattle.vx_partition.specs.Splits.{split_view}
use Rattle.vx_partition.specs.Views.{partition_view, shares_view}
use Rattle.vx_partition.proofs.SplitLemmas.{as_columns, not_split, split_by}
use Rattle.vx_partition.proofs.splitting.partition.Goals as goal

pub returns-in_err-partitions : goal.returns-in_err-partitions
returns-in_err-partitions g c =
    let same = g.F.Annotation.PartialEq.eq in
    let text = g.F.Annotation.Annotation.text in
    let rule = g.F.AnnotationFn.annotated c.args.annotate_fn.now in
    let e = c.args.expr in
    let p = err_from_is_err_and c.from_residual-in_err-partitions.result c.from_residual-in_err-partitions.ensures.1 in
    rw (p.1, p.2)
    (not_split text (type_view c.args.scope.now) (taken_from same text (annotated same rule e) e []) c.in_ok-root.root (shares_view c.in_ok-root.shares) c.in_ok-root.ensures
    c.in_err-partitions.field-0.0 c.in_err-partitions.ensures)

pub returns : goal.returns
returns g c =
    let same = g.F.Annotation.PartialEq.eq in
    let text = g.F.Annotation.Annotation.text in
    let rule = g.F.AnnotationFn.annotated c.args.annotate_fn.now in
    let e = c.args.expr in
    let root = c.in_ok-root.root in
    let items = c.in_ok-partitions.partitions.items in
    let split_so =
    split_by text (type_view c.args.scope.now) (taken_from same text (annotated same rule e) e []) root (shares_view c.in_ok-root.shares) c.in_ok-root.ensures
    (map partition_view items) c.in_ok-partitions.ensures in
    let rooted_so = ap (λ ps. as_columns text (with_root text root (map partition_view ps))) (sym c.as_slice.ensures.value) in
    subst (λ told. AnswersBy split_view told c.with_root.result) (sym (split_so ∙ rooted_so)) c.with_root.ensures

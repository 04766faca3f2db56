use Rattle.std.proofs.Common.{[], ◌∷◌, map, sym, ap, subst, ◌∙◌, arith}
use Rattle.std.proofs.lemmas.List.{map-append}
use Rattle.std.proofs.lemmas.Result.{err_from_is_err_and}
use Rattle.vx_dtype.specs.TypeViews.{type_view}
use Rattle.vx_passes.specs.Splitting.{partition_of}
use Rattle.vx_transform.specs.TransformAnswers.{Refuses}
use Rattle.vx_transform.proofs.RebuildLemmas.{goes_on, stops_by, ends}
use Rattle.vx_partition.specs.Views.{partition_view, share_view, shares_view}
use Rattle.vx_partition.proofs.SplitLemmas.{partitions_each}
use Rattle.vx_partition.proofs.partitions.partitions_of.Goals as goal

pub returns-in_err-partition : goal.returns-in_err-partition
returns-in_err-partition g c =
    let text = g.A.Annotation.text in
    let t = type_view c.args.scope.now in
    let ss = shares_view c.args.shares.now in
    let l = c.loop-place in
    let p = err_from_is_err_and c.from_residual.result c.from_residual.ensures.1 in
    rw (p.1, p.2)
    (subst (λ told. Refuses told c.in_err-partition.field-0.0) (sym (partitions_each text t ss))
    (stops_by (partition_of text t) ss l.place (map partition_view l.made.items) l.invariant (share_view (c.at.result.0.now, c.at.result.1.now))
    c.in_err-partition.field-0.0 c.at.ensures c.in_err-partition.ensures))

pub loop-place-preserved : goal.loop-place-preserved
loop-place-preserved g c =
    let l = c.loop-place in
    let pushed = ap (map partition_view) c.in_ok-push.ensures.items ∙ map-append partition_view l.made.items (c.in_ok-partition.partition ∷ []) in
    goes_on (partition_of g.A.Annotation.text (type_view c.args.scope.now)) (shares_view c.args.shares.now) l.place (map partition_view l.made.items) l.invariant
    (share_view (c.at.result.0.now, c.at.result.1.now)) (partition_view c.in_ok-partition.partition) (map partition_view c.push.new.self.items) c.at.ensures
    c.in_ok-partition.ensures pushed

pub returns : goal.returns
returns g c =
    let text = g.A.Annotation.text in
    let t = type_view c.args.scope.now in
    let ss = shares_view c.args.shares.now in
    let l = c.loop-place in
    partitions_each text t ss
    ∙ ends (partition_of text t) ss l.place (map partition_view l.made.items) l.invariant (omega (arith, c.loop-place-test.false, c.len-place-end.ensures))

use Rattle.std.proofs.Common.{◌≡◌, true, [], ap, sym, ◌∙◌}
use Rattle.std.specs.List.{list_all}
use Rattle.vx_dtype.proofs.DistinctLemmas.{found}
use Rattle.vx_expr.specs.PostOrders.{post_order}
use Rattle.vx_passes.specs.Splitting.{taken_from}
use Rattle.vx_partition.specs.Takings.{taken_as}
use Rattle.vx_partition.specs.Views.{shares_view}
use Rattle.vx_partition.specs.Visits.{has_none}
use Rattle.vx_partition.proofs.UntouchedLemmas.{each_bare, nothing_taken}
use Rattle.vx_partition.proofs.splitting.taken_out.Goals as goal

pub returns-then-not-touched : goal.returns-then-not-touched
returns-then-not-touched g c =
    let same = g.F.Annotation.PartialEq.eq in
    let rule = g.F.AnnotationFn.annotated c.args.annotate.now in
    let e = c.args.expr in
    let none : list_all (has_none rule) (post_order e) ≡ true = found (list_all (has_none rule) (post_order e)) (sym c.in_ok-touched.ensures ∙ c.if-not-touched.true) in
    nothing_taken same rule g.F.Annotation.Annotation.text e (each_bare same rule (post_order e) none) ∙ ap (taken_as e) (sym c.new.ensures)

pub returns : goal.returns
returns g c =
    let same = g.F.Annotation.PartialEq.eq in
    let text = g.F.Annotation.Annotation.text in
    ap (λ m. taken_from same text m c.args.expr []) (sym c.in_ok-found.ensures.entries) ∙ c.in_ok-made.ensures
    ∙ ap (λ d. taken_as d (shares_view c.in_ok-made.shares)) (sym c.unwrap_or.ensures)

use Rattle.std.proofs.Common.{◌∙◌, sym, inl, inr, subst}
use Rattle.vx_semantics.specs.Meaning.{Slots}
use Rattle.vx_wire.specs.Registries.{registered}
use Rattle.vx_scan.specs.Scanning.{IsScan, IsScanOf}
use Rattle.vx_scan.proofs.ReadLemmas.{the_error}
use Rattle.vx_scan.proofs.StandLemmas.{filter_unspelled, projection_unspelled}
use Rattle.vx_scan.proofs.scans.scan.Goals as goal

pub returns-in_err-filter_expr-clause-ends : goal.returns-in_err-filter_expr-clause-ends
returns-in_err-filter_expr-clause-ends g c =
    let first = g.S.ColumnStore.seen c.args.store.now in
    let holds = registered c.args.registry.now in
    let err = c.in_err-filter_expr.field-0.0 in
    let same = the_error c.from_residual.result err c.from_residual.ensures.0 c.from_residual.ensures.1 in
    subst (λ r. IsScan holds c.args.filter.now c.args.projection.now first first r) (sym same)
    (inl (filter_unspelled holds c.args.filter.now c.args.projection.now first err c.in_err-filter_expr.ensures))

pub returns-in_err-projection_expr-clause-ends : goal.returns-in_err-projection_expr-clause-ends
returns-in_err-projection_expr-clause-ends g c =
    let first = g.S.ColumnStore.seen c.args.store.now in
    let holds = registered c.args.registry.now in
    let err = c.in_err-projection_expr.field-0.0 in
    let residual = c.from_residual-in_err-projection_expr in
    let same = the_error residual.result err residual.ensures.0 residual.ensures.1 in
    subst (λ r. IsScan holds c.args.filter.now c.args.projection.now first first r) (sym same)
    (inl (projection_unspelled holds c.args.filter.now c.args.projection.now c.in_ok-filter_expr.filter_expr first err c.in_ok-filter_expr.ensures c.in_err-projection_expr.ensures))

pub returns-clause-ends : goal.returns-clause-ends
returns-clause-ends g c =
    let first = g.S.ColumnStore.seen c.args.store.now in
    let last = g.S.ColumnStore.seen c.scan_exprs.new.store in
    let f = c.in_ok-filter_expr.filter_expr in
    let p = c.in_ok-projection_expr.projection_expr in
    inr (
      f,
      p,
      record { filter_spelled = c.in_ok-filter_expr.ensures; projection_spelled = c.in_ok-projection_expr.ensures },
      subst (λ (s : Slots). IsScanOf s f p first last c.scan_exprs.result) (c.as_slice.ensures.value ∙ c.new-slots.ensures.items) c.scan_exprs.ensures.ends,
    )

use Rattle.std.proofs.Common.{◌≡◌, sym, subst}
use Rattle.vx_wire.specs.Encodings.{is_default_kind}
use Rattle.vx_wire.specs.Registries.{registered}
use Rattle.vx_scan.proofs.ReadLemmas.{the_error}
use Rattle.vx_query.specs.TopViews.{DecodesBoth}
use Rattle.vx_query.proofs.SlotLemmas.{spelled_slotless}
use Rattle.vx_query.proofs.TopAnswerLemmas.{filter_undecoded, projection_undecoded, both_decoded}
use Rattle.vx_query.proofs.tops.both_exprs.Goals as goal

pub returns-in_err-filter_expr-clause-both : goal.returns-in_err-filter_expr-clause-both
returns-in_err-filter_expr-clause-both c =
    let holds = registered c.default-registry.result in
    let kinds : holds ≡ is_default_kind = λ j e. (c.default-registry.ensures e) j in
    let err = c.in_err-filter_expr.field-0.0 in
    subst (DecodesBoth c.args.filter.now c.args.projection.now) (sym (the_error c.from_residual.result err c.from_residual.ensures.0 c.from_residual.ensures.1))
    (filter_undecoded holds c.args.filter.now c.args.projection.now err kinds c.in_err-filter_expr.ensures)

pub returns-in_err-projection_expr-clause-both : goal.returns-in_err-projection_expr-clause-both
returns-in_err-projection_expr-clause-both c =
    let holds = registered c.default-registry.result in
    let kinds : holds ≡ is_default_kind = λ j e. (c.default-registry.ensures e) j in
    let err = c.in_err-projection_expr.field-0.0 in
    let residual = c.from_residual-in_err-projection_expr in
    subst (DecodesBoth c.args.filter.now c.args.projection.now) (sym (the_error residual.result err residual.ensures.0 residual.ensures.1))
    (projection_undecoded holds c.args.filter.now c.args.projection.now c.in_ok-filter_expr.filter_expr err kinds c.in_ok-filter_expr.ensures
    c.in_err-projection_expr.ensures)

pub returns-clause-both : goal.returns-clause-both
returns-clause-both c =
    let holds = registered c.default-registry.result in
    let kinds : holds ≡ is_default_kind = λ j e. (c.default-registry.ensures e) j in
    both_decoded holds c.args.filter.now c.args.projection.now c.in_ok-filter_expr.filter_expr c.in_ok-projection_expr.projection_expr kinds
    c.in_ok-filter_expr.ensures c.in_ok-projection_expr.ensures

pub returns-clause-slots : goal.returns-clause-slots
returns-clause-slots c =
    let holds = registered c.default-registry.result in (
      spelled_slotless holds c.args.filter.now c.in_ok-filter_expr.filter_expr c.in_ok-filter_expr.ensures,
      spelled_slotless holds c.args.projection.now c.in_ok-projection_expr.projection_expr c.in_ok-projection_expr.ensures,
    )

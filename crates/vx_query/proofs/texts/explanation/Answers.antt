use Rattle.std.proofs.Common.{◌≡◌, subst, Ok, Err}
use Rattle.vx_wire.specs.Encodings.{is_default_kind}
use Rattle.vx_wire.specs.Registries.{registered}
use Rattle.vx_request.specs.RequestViews.{scan_view}
use Rattle.vx_explain.specs.Explaining.{Explains}
use Rattle.vx_query.specs.RefusalViews.{request_refusal, scan_refusal}
use Rattle.vx_query.proofs.AnswerLemmas.{refused_by}
use Rattle.vx_query.proofs.TextLemmas.{input_err, unexplained}
use Rattle.vx_query.proofs.texts.explanation.Goals as goal

pub returns-in_err-request : goal.returns-in_err-request
returns-in_err-request c =
    input_err c.args.input.now (request_refusal c.in_err-request.field-0.0) c.from_residual.result c.from_residual.ensures.1
    (refused_by c.args.input.now c.in_err-request.field-0.0 c.in_err-request.ensures)

pub returns-in_err-text : goal.returns-in_err-text
returns-in_err-text c =
    let a = scan_view c.in_ok-request.request in
    let kinds : registered c.default-registry.result ≡ is_default_kind = λ j e. (c.default-registry.ensures e) j in
    let e = c.in_err-text.field-0.0 in
    let residual = c.from_residual-in_err-text in
    let refused : Explains is_default_kind a.zones a.filter a.projection (Err e) =
    subst (λ k. k) (λ i. Explains (kinds i) a.zones (c.as_slice-filter.ensures.value i) (c.as_slice-projection.ensures.value i) (Err e)) c.in_err-text.ensures in
    input_err c.args.input.now (scan_refusal e) residual.result residual.ensures.1 (unexplained c.args.input.now a e c.in_ok-request.ensures refused)

pub returns : goal.returns
returns c =
    let a = scan_view c.in_ok-request.request in
    let kinds : registered c.default-registry.result ≡ is_default_kind = λ j e. (c.default-registry.ensures e) j in
    let told : Explains is_default_kind a.zones a.filter a.projection (Ok c.in_ok-text.text) =
    subst (λ k. k) (λ i. Explains (kinds i) a.zones (c.as_slice-filter.ensures.value i) (c.as_slice-projection.ensures.value i) (Ok c.in_ok-text.text)) c.in_ok-text.ensures in
    record {
      asked = a;
      filter = told.filter;
      projection = told.projection;
      holds = record { asked = c.in_ok-request.ensures; spelled = told.spelled; ty = told.ty; typed = told.typed };
      told = told.told;
    }

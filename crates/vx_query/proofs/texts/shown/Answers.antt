use Rattle.std.proofs.Common.{◌≡◌, ◌∙◌, sym, ap, subst, Some, Ok, Err}
use Rattle.vx_wire.specs.Encodings.{is_default_kind}
use Rattle.vx_wire.specs.Registries.{registered}
use Rattle.vx_explain.specs.Explaining.{Shows}
use Rattle.vx_request.specs.Requests.{hex_bytes}
use Rattle.vx_query.specs.RefusalViews.{scan_refusal}
use Rattle.vx_query.specs.Running.{shown_text}
use Rattle.vx_query.specs.RunViews.{showing_view}
use Rattle.vx_query.proofs.TextLemmas.{word_err, unshown_word}
use Rattle.vx_query.proofs.texts.shown.Goals as goal

pub returns-in_err-bytes : goal.returns-in_err-bytes
returns-in_err-bytes c = word_err (shown_text (showing_view c.args.showing)) c.args.hex.now c.in_err-bytes.field-0.0 c.from_residual.result c.from_residual.ensures.1 c.in_err-bytes.ensures.refused

pub returns-in_err-text : goal.returns-in_err-text
returns-in_err-text c =
    let told = shown_text (showing_view c.args.showing) in
    let kinds : registered c.default-registry.result ≡ is_default_kind = λ j e. (c.default-registry.ensures e) j in
    let e = c.in_err-text.field-0.0 in
    let residual = c.from_residual-in_err-text in
    let digits : hex_bytes c.args.hex.now ≡ Some c.as_slice.result.now = c.in_ok-bytes.ensures.digits ∙ ap Some (sym c.as_slice.ensures.value) in
    word_err told c.args.hex.now (scan_refusal e) residual.result residual.ensures.1
    (unshown_word told c.args.hex.now c.as_slice.result.now e digits (subst (λ k. Shows told k c.as_slice.result.now (Err e)) kinds c.in_err-text.ensures))

pub returns : goal.returns
returns c =
    let told = shown_text (showing_view c.args.showing) in
    let kinds : registered c.default-registry.result ≡ is_default_kind = λ j e. (c.default-registry.ensures e) j in
    let digits : hex_bytes c.args.hex.now ≡ Some c.as_slice.result.now = c.in_ok-bytes.ensures.digits ∙ ap Some (sym c.as_slice.ensures.value) in
    let shows : Shows told is_default_kind c.as_slice.result.now (Ok c.in_ok-text.text) = subst (λ k. Shows told k c.as_slice.result.now (Ok c.in_ok-text.text)) kinds c.in_ok-text.ensures in
    (shows.0, record { bytes = c.as_slice.result.now; digits = digits; spelled = shows.1 }, shows.2)

use Rattle.std.proofs.Common.{◌≡◌, true, ◌∙◌, sym, subst}
use Rattle.std.specs.Str.{IsUtf8}
use Rattle.vx_dtype.specs.RawViews.{raw_view}
use Rattle.vx_dtype.specs.Types.{Bytes}
use Rattle.vx_dtype.specs.declared.values.ScalarValue.{Utf8}
use Rattle.vx_arrays.specs.Arrays.{is_valid}
use Rattle.vx_arrays.proofs.TextLemmas.{text_known, text_bad, raw_view-text}
use Rattle.vx_arrays.proofs.texts.text_or_null.Goals as goal

pub returns-in_ok-new-in-Ok : goal.returns-in_ok-new-in-Ok
returns-in_ok-new-in-Ok c =
    let valid : is_valid c.args.validity.now c.args.i ≡ true = sym c.is_valid.ensures ∙ c.if-not-is_valid.false in
    let text : Bytes = c.in_ok-new-in-Ok.field-0 in
    let same = c.in-Ok.ensures.cases.0 in
    let spelt : IsUtf8 text = subst (λ (s : Bytes). IsUtf8 s) (sym same ∙ sym c.in_ok-new-in-Ok.ensures) c.in-Ok.ensures.cases.1 in
    text_known c.args.validity.now c.args.offsets.now c.args.bytes.now text c.args.i (raw_view (Utf8 text)) valid spelt
    (c.in_ok-new-in-Ok.ensures ∙ same ∙ c.text_at.ensures) (raw_view-text text)

pub returns-in-Err : goal.returns-in-Err
returns-in-Err c =
    let valid : is_valid c.args.validity.now c.args.i ≡ true = sym c.is_valid.ensures ∙ c.if-not-is_valid.false in
    text_bad c.args.validity.now c.args.offsets.now c.args.bytes.now c.text_at.result.now c.args.i valid c.in-Err.ensures.cases.0 c.text_at.ensures

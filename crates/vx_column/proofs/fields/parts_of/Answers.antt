use Rattle.std.proofs.Common.{◌≡◌, ◌∙◌, ap, sym, map}
use Rattle.vx_dtype.specs.RawViews.{raw_view, raws_of, raw_step}
use Rattle.vx_dtype.specs.Values.{Raw, raw_struct}
use Rattle.vx_dtype.specs.declared.values.ScalarValue.TheOpen.{Struct}
use Rattle.vx_dtype.specs.declared.values.ScalarValue.TheVariants.{rolls-Struct}
use Rattle.vx_dtype.specs.declared.values.ScalarValue.TheFolds.{fold-roll-ScalarValue}
use Rattle.vx_column.proofs.FieldLemmas.{parts-stand}
use Rattle.vx_column.proofs.fields.parts_of.Goals as goal

pub returns-in-Struct : goal.returns-in-Struct
returns-in-Struct c =
    let row : c.as_slice.result.now ≡ c.in-Struct.values.value.items = c.as_slice.ensures.value ∙ ap (λ v. v.items) c.deref.ensures in
    let is : raw_view c.args.value.now ≡ raw_struct (raws_of (map raw_view c.as_slice.result.now)) =
    ap raw_view c.in-Struct.is ∙ ap raw_view (sym (rolls-Struct c.in-Struct.values)) ∙ fold-roll-ScalarValue Raw raw_step (Struct c.in-Struct.values) ∙ ap (λ xs. raw_struct (raws_of (map raw_view xs))) (sym row) in
    λ fs n fit. parts-stand fs n c.args.value.now c.as_slice.result.now is fit

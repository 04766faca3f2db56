use Rattle.std.proofs.Common.{◌≡◌, ◌∙◌, ap, sym, map, length, get_or, arith}
use Rattle.vx_dtype.specs.RawViews.{raw_view, raws_of, raw_step}
use Rattle.vx_dtype.specs.Values.{Raw, raw_struct}
use Rattle.vx_dtype.specs.declared.values.ScalarValue.TheOpen.{Struct}
use Rattle.vx_dtype.specs.declared.values.ScalarValue.TheVariants.{rolls-Struct}
use Rattle.vx_dtype.specs.declared.values.ScalarValue.TheFolds.{fold-roll-ScalarValue}
use Rattle.vx_column.specs.Splits.{parts_in, raws_at, raws_length}
use Rattle.vx_column.proofs.SplitLemmas.{length-raws_of, raws_of-at}
use Rattle.vx_column.proofs.splits.part_of.Goals as goal

pub bounds-values-place : goal.bounds-values-place
bounds-values-place c =
    let is : raw_view c.args.row.now ≡ raw_struct (raws_of (map raw_view c.in-Struct.parts.value.items)) =
    ap raw_view c.in-Struct.is ∙ ap raw_view (sym (rolls-Struct c.in-Struct.parts)) ∙ fold-roll-ScalarValue Raw raw_step (Struct c.in-Struct.parts) in
    let number = ap (λ x. raws_length (parts_in x)) is ∙ length-raws_of raw_view c.in-Struct.parts.value.items in
    omega (arith, number, ap length c.values_in-values.ensures, c.requires)

pub offset_bounds-values-place : goal.offset_bounds-values-place
offset_bounds-values-place c =
    let is : raw_view c.args.row.now ≡ raw_struct (raws_of (map raw_view c.in-Struct.parts.value.items)) =
    ap raw_view c.in-Struct.is ∙ ap raw_view (sym (rolls-Struct c.in-Struct.parts)) ∙ fold-roll-ScalarValue Raw raw_step (Struct c.in-Struct.parts) in
    let number = ap (λ x. raws_length (parts_in x)) is ∙ length-raws_of raw_view c.in-Struct.parts.value.items in
    omega (arith, number, ap length c.values_in-values.ensures, c.requires)

pub returns : goal.returns
returns c =
    let xs = c.in-Struct.parts.value.items in
    let is : raw_view c.args.row.now ≡ raw_struct (raws_of (map raw_view xs)) =
    ap raw_view c.in-Struct.is ∙ ap raw_view (sym (rolls-Struct c.in-Struct.parts)) ∙ fold-roll-ScalarValue Raw raw_step (Struct c.in-Struct.parts) in
    let number = ap (λ x. raws_length (parts_in x)) is ∙ length-raws_of raw_view xs in
    ap raw_view (c.index-values-place.is ∙ ap (λ ys. get_or ys c.args.place c.index-values-place.result) c.values_in-values.ensures)
    ∙ sym (ap (λ x. raws_at (parts_in x) c.args.place) is ∙ raws_of-at raw_view xs c.args.place c.index-values-place.result (omega (arith, number, c.requires)))

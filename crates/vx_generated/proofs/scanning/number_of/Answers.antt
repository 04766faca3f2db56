use Rattle.std.proofs.Common.{◌≡◌, ◌∙◌, sym, ap}
use Rattle.std.proofs.lemmas.Int.{to_z-of_z}
use Rattle.vx_dtype.specs.Fits.{fits}
use Rattle.vx_dtype.specs.Values.{Raw, raw_int}
use Rattle.vx_dtype.specs.RawViews.{raw_step, raw_view}
use Rattle.vx_dtype.specs.declared.values.ScalarValue.TheOpen.{Null, Bool, Int, Utf8, List, Struct}
use Rattle.vx_dtype.specs.declared.values.ScalarValue.TheVariants.{rolls-Null, rolls-Bool, rolls-Int, rolls-Utf8, rolls-List, rolls-Struct}
use Rattle.vx_dtype.specs.declared.values.ScalarValue.TheFolds.{fold-roll-ScalarValue}
use Rattle.vx_generated.proofs.ScanLemmas.{id_ty}
use Rattle.vx_generated.proofs.SumLemmas.{no-null, no-bool, no-text, no-list, no-struct, long-so, wide-so, number-told}
use Rattle.vx_generated.proofs.scanning.number_of.Goals as goal

pub unreachable-requires : goal.unreachable-requires
unreachable-requires c =
    let seen = ap raw_view c.in-Null.is ∙ ap raw_view (sym rolls-Null) ∙ fold-roll-ScalarValue Raw raw_step Null in
    no-null (ap (λ r. fits r id_ty) (sym seen) ∙ c.requires)

pub unreachable-requires-in-Bool : goal.unreachable-requires-in-Bool
unreachable-requires-in-Bool c =
    let seen = ap raw_view c.in-Bool.is ∙ ap raw_view (sym (rolls-Bool c.in-Bool.field-0)) ∙ fold-roll-ScalarValue Raw raw_step (Bool c.in-Bool.field-0) in
    no-bool _ (ap (λ r. fits r id_ty) (sym seen) ∙ c.requires)

pub unreachable-requires-in-Utf8 : goal.unreachable-requires-in-Utf8
unreachable-requires-in-Utf8 c =
    let seen = ap raw_view c.in-Utf8.is ∙ ap raw_view (sym (rolls-Utf8 c.in-Utf8.field-0)) ∙ fold-roll-ScalarValue Raw raw_step (Utf8 c.in-Utf8.field-0) in
    no-text _ (ap (λ r. fits r id_ty) (sym seen) ∙ c.requires)

pub unreachable-requires-in-List : goal.unreachable-requires-in-List
unreachable-requires-in-List c =
    let seen = ap raw_view c.in-List.is ∙ ap raw_view (sym (rolls-List c.in-List.field-0)) ∙ fold-roll-ScalarValue Raw raw_step (List c.in-List.field-0) in
    no-list _ (ap (λ r. fits r id_ty) (sym seen) ∙ c.requires)

pub unreachable-requires-in-Struct : goal.unreachable-requires-in-Struct
unreachable-requires-in-Struct c =
    let seen = ap raw_view c.in-Struct.is ∙ ap raw_view (sym (rolls-Struct c.in-Struct.field-0)) ∙ fold-roll-ScalarValue Raw raw_step (Struct c.in-Struct.field-0) in
    no-struct _ (ap (λ r. fits r id_ty) (sym seen) ∙ c.requires)

pub returns : goal.returns
returns c =
    let seen : raw_view c.args.value.now ≡ raw_int c.in-Int.number = ap raw_view c.in-Int.is ∙ ap raw_view (sym (rolls-Int c.in-Int.number)) ∙ fold-roll-ScalarValue Raw raw_step (Int c.in-Int.number) in
    let told = number-told c.args.value.now c.in-Int.number seen in
    to_z-of_z mir.Syntax.w128 c.in-Int.number (wide-so c.in-Int.number (long-so c.args.value.now c.in-Int.number c.requires told)) ∙ told

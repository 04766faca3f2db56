use Rattle.std.proofs.Common.{rules, to_z, of_z, ◌≡◌, ◌++◌, map, length, true, refl, sym, ap, ◌∙◌, subst, arith}
use Rattle.std.specs.Int.{w128}
use Rattle.std.specs.Prelude.{OnOk}
use Rattle.std.proofs.lemmas.Result.{err_from_is_err_and}
use Rattle.vx_dtype.specs.Types.{int_ty, list_ty, struct_ty}
use Rattle.vx_dtype.specs.Values.{Raw, raw_int, raw_text, raw_list, raw_struct}
use Rattle.vx_dtype.specs.Fits.{fits, all_fit, fields_fit}
use Rattle.vx_dtype.specs.TypeRules.{depth_of}
use Rattle.vx_dtype.specs.TypeViews.{type_view}
use Rattle.vx_dtype.specs.RawViews.{raw_view, raws_of, raw_step}
use Rattle.vx_dtype.specs.declared.values.ScalarValue.TheOpen.{Int, Utf8, List, Struct}
use Rattle.vx_dtype.specs.declared.values.ScalarValue.TheVariants.{rolls-Int, rolls-Utf8, rolls-List, rolls-Struct}
use Rattle.vx_dtype.specs.declared.values.ScalarValue.TheFolds.{fold-roll-ScalarValue}
use Rattle.vx_wire_bytes.specs.Numbers.{piece_bytes, number_bytes}
use Rattle.vx_wire_bytes.specs.Fields.{IsShort}
use Rattle.vx_wire_bytes.specs.ValueForms.{integer_bytes, raws_number, elements_bytes, members_bytes, TextsAre}
use Rattle.vx_dtype.proofs.FieldsFrom.{depth-at}
use Rattle.vx_wire_bytes.proofs.TypeWriting.{extends_then}
use Rattle.vx_wire_bytes.proofs.LengthLemmas.{raws_number_map}
use Rattle.vx_wire_bytes.proofs.ValueWriting.{elements_start, element_here, elements_step, member_has_type, member_here, members_step, then_more, ok_then, value_is, fit_is}
use Rattle.vx_wire_bytes.proofs.value_writing.+push_value.Goals as goal

pub push_elements-overflow_cast-elements : goal.push_elements-overflow_cast-elements
push_elements-overflow_cast-elements t c = omega (arith, c.requires.number, raws_number_map raw_view c.args.elements.now)

pub push_elements-loop-i-init : goal.push_elements-loop-i-init
push_elements-loop-i-init t c =
    elements_start raw_view c.args.out.now.items c.write_number.new.out.items (type_view c.args.dtype.now) c.args.elements.now (length c.args.elements.now) c.requires.fit c.requires.texts refl c.in_ok-write_number.ensures.ok

pub push_elements-push_value-requires : goal.push_elements-push_value-requires
push_elements-push_value-requires t c =
    let h = element_here raw_view c.args.out.now.items c.loop-i.out.items (type_view c.args.dtype.now) c.args.elements.now c.loop-i.i c.index-elements-i.result c.loop-i-test.true c.index-elements-i.is c.loop-i.invariant in
    (omega (arith, c.decreases), (h.0, h.1))

pub push_elements-returns-in_err-push_value-clause-err : goal.push_elements-returns-in_err-push_value-clause-err
push_elements-returns-in_err-push_value-clause-err t c =
    let p = err_from_is_err_and c.from_residual-in_err-push_value.result c.from_residual-in_err-push_value.ensures.1 in
    rw p.1 (extends_then c.args.out.now.items c.loop-i.out.items c.push_value.new.out.items c.loop-i.invariant.so_far c.in_err-push_value.ensures.err)

pub push_elements-loop-i-preserved : goal.push_elements-loop-i-preserved
push_elements-loop-i-preserved t c =
    elements_step raw_view c.args.out.now.items c.loop-i.out.items c.push_value.new.out.items (type_view c.args.dtype.now) c.args.elements.now c.loop-i.i c.index-elements-i.result c.loop-i-test.true c.index-elements-i.is c.in_ok-push_value.ensures.ok c.loop-i.invariant

pub push_members-unreachable-requires : goal.push_members-unreachable-requires
push_members-unreachable-requires t c = member_has_type raw_view c.args.out.now.items c.loop-i.out.items c.args.fields.now c.args.values.now c.loop-i.i c.loop-i-test.true c.loop-i.invariant c.in_default.ensures

pub push_members-push_value-requires : goal.push_members-push_value-requires
push_members-push_value-requires t c =
    let h = member_here raw_view c.args.out.now.items c.loop-i.out.items c.args.fields.now c.args.values.now c.loop-i.i c.index-values-i.result (type_view c.in-Some.dtype.now) c.loop-i-test.true c.index-values-i.is (sym c.in-Some.ensures) c.loop-i.invariant in
    (omega (arith, c.decreases, depth-at c.loop-i.i c.args.fields.now (type_view c.in-Some.dtype.now) (sym c.in-Some.ensures)), (h.0, h.1))

pub push_members-returns-in_err-push_value-clause-err : goal.push_members-returns-in_err-push_value-clause-err
push_members-returns-in_err-push_value-clause-err t c =
    let p = err_from_is_err_and c.from_residual.result c.from_residual.ensures.1 in
    rw p.1 (extends_then c.args.out.now.items c.loop-i.out.items c.push_value.new.out.items c.loop-i.invariant.so_far c.in_err-push_value.ensures.err)

pub push_members-loop-i-preserved : goal.push_members-loop-i-preserved
push_members-loop-i-preserved t c =
    members_step raw_view c.args.out.now.items c.loop-i.out.items c.push_value.new.out.items c.args.fields.now c.args.values.now c.loop-i.i c.index-values-i.result (type_view c.in-Some.dtype.now) c.loop-i-test.true c.index-values-i.is (sym c.in-Some.ensures) c.in_ok-push_value.ensures.ok c.loop-i.invariant

pub push_value-push_elements-requires : goal.push_value-push_elements-requires
unfolding depth_of fits
push_value-push_elements-requires t c =
    let row : c.as_slice.result.now ≡ c.in-List.elements.value.items = c.as_slice.ensures.value ∙ ap (λ v. v.items) c.deref.ensures in
    let seen : raw_view c.args.value.now ≡ raw_list (raws_of (map raw_view c.as_slice.result.now)) =
    ap raw_view c.in-List.is ∙ ap raw_view (sym (rolls-List c.in-List.elements)) ∙ fold-roll-ScalarValue Raw raw_step (List c.in-List.elements) ∙ ap (λ xs. raw_list (raws_of (map raw_view xs))) (sym row) in
    let type : type_view c.args.dtype.now ≡ list_ty c.in-List-dtype.element c.in-List-dtype.field-1 = ap type_view c.in-List-dtype.is in
    let fit : all_fit (raws_of (map raw_view c.as_slice.result.now)) c.in-List-dtype.element ≡ true = fit_is _ _ _ _ type seen c.requires.fit in
    let texts = subst (TextsAre IsShort) seen c.requires.texts in
    (omega (arith, c.decreases, ap depth_of type, ap depth_of c.dtype.ensures), (texts.0, (subst (λ e. all_fit (raws_of (map raw_view c.as_slice.result.now)) e ≡ true) (sym c.dtype.ensures) fit, texts.1)))

pub push_value-push_members-requires : goal.push_value-push_members-requires
unfolding depth_of fits
push_value-push_members-requires t c =
    let row : c.as_slice-in-Struct-dtype.result.now ≡ c.in-Struct.values.value.items = c.as_slice-in-Struct-dtype.ensures.value ∙ ap (λ v. v.items) c.deref-in-Struct-dtype.ensures in
    let seen : raw_view c.args.value.now ≡ raw_struct (raws_of (map raw_view c.as_slice-in-Struct-dtype.result.now)) =
    ap raw_view c.in-Struct.is ∙ ap raw_view (sym (rolls-Struct c.in-Struct.values)) ∙ fold-roll-ScalarValue Raw raw_step (Struct c.in-Struct.values) ∙ ap (λ xs. raw_struct (raws_of (map raw_view xs))) (sym row) in
    let type : type_view c.args.dtype.now ≡ struct_ty c.in-Struct-dtype.fields c.in-Struct-dtype.field-1 = ap type_view c.in-Struct-dtype.is in
    let fit : fields_fit (raws_of (map raw_view c.as_slice-in-Struct-dtype.result.now)) c.in-Struct-dtype.fields ≡ true = fit_is _ _ _ _ type seen c.requires.fit in
    (omega (arith, c.decreases, ap depth_of type), (fit, subst (TextsAre IsShort) seen c.requires.texts))

pub push_value-returns-in_ok-push-in-Primitive-clause-ok : goal.push_value-returns-in_ok-push-in-Primitive-clause-ok
push_value-returns-in_ok-push-in-Primitive-clause-ok t c =
    let seen : raw_view c.args.value.now ≡ raw_int c.in-Int.number = ap raw_view c.in-Int.is ∙ ap raw_view (sym (rolls-Int c.in-Int.number)) ∙ fold-roll-ScalarValue Raw raw_step (Int c.in-Int.number) in
    let type : type_view c.args.dtype.now ≡ int_ty c.in-Primitive.ptype c.in-Primitive.field-1 = ap type_view c.in-Primitive.is in
    let same : to_z w128 (of_z w128 c.in-Int.number) ≡ c.in-Int.number = search rules in
    subst (λ b. OnOk c.push_integer.result (c.push_integer.new.out.items ≡ c.args.out.now.items ++ b)) (sym (value_is _ _ _ _ type seen))
    (ok_then c.push_integer.result (then_more c.args.out.now.items c.push-in-Primitive.new.self.items c.push_integer.new.out.items (integer_bytes c.in-Primitive.ptype c.in-Int.number) 1 c.in_ok-push-in-Primitive.ensures.items)
    (subst (λ n. OnOk c.push_integer.result (c.push_integer.new.out.items ≡ c.push-in-Primitive.new.self.items ++ integer_bytes c.in-Primitive.ptype n)) same c.push_integer.ensures.ok))

pub push_value-returns-in_ok-push-in-Utf8-clause-ok : goal.push_value-returns-in_ok-push-in-Utf8-clause-ok
push_value-returns-in_ok-push-in-Utf8-clause-ok t c =
    let seen : raw_view c.args.value.now ≡ raw_text c.in-Utf8.text = ap raw_view c.in-Utf8.is ∙ ap raw_view (sym (rolls-Utf8 c.in-Utf8.text)) ∙ fold-roll-ScalarValue Raw raw_step (Utf8 c.in-Utf8.text) in
    subst (λ b. OnOk c.write_text.result (c.write_text.new.out.items ≡ c.args.out.now.items ++ b)) (sym (value_is (type_view c.args.dtype.now) (type_view c.args.dtype.now) _ _ refl seen))
    (ok_then c.write_text.result (then_more c.args.out.now.items c.push-in-Utf8.new.self.items c.write_text.new.out.items (piece_bytes c.in-Utf8.text) 1 c.in_ok-push-in-Utf8.ensures.items) c.write_text.ensures.ok)

pub push_value-returns-in_ok-push-in-List-dtype-clause-ok : goal.push_value-returns-in_ok-push-in-List-dtype-clause-ok
push_value-returns-in_ok-push-in-List-dtype-clause-ok t c =
    let row : c.as_slice.result.now ≡ c.in-List.elements.value.items = c.as_slice.ensures.value ∙ ap (λ v. v.items) c.deref.ensures in
    let seen : raw_view c.args.value.now ≡ raw_list (raws_of (map raw_view c.as_slice.result.now)) =
    ap raw_view c.in-List.is ∙ ap raw_view (sym (rolls-List c.in-List.elements)) ∙ fold-roll-ScalarValue Raw raw_step (List c.in-List.elements) ∙ ap (λ xs. raw_list (raws_of (map raw_view xs))) (sym row) in
    let type : type_view c.args.dtype.now ≡ list_ty (type_view c.dtype.result.now) c.in-List-dtype.field-1 = ap type_view c.in-List-dtype.is ∙ ap (λ e. list_ty e c.in-List-dtype.field-1) (sym c.dtype.ensures) in
    let xs = raws_of (map raw_view c.as_slice.result.now) in
    subst (λ b. OnOk c.push_elements.result (c.push_elements.new.out.items ≡ c.args.out.now.items ++ b)) (sym (value_is _ _ _ _ type seen))
    (ok_then c.push_elements.result (then_more c.args.out.now.items c.push-in-List-dtype.new.self.items c.push_elements.new.out.items (number_bytes (raws_number xs) ++ elements_bytes (type_view c.dtype.result.now) xs) 1 c.in_ok-push-in-List-dtype.ensures.items) c.push_elements.ensures.ok)

pub push_value-returns-in_ok-push-in-Struct-dtype-clause-ok : goal.push_value-returns-in_ok-push-in-Struct-dtype-clause-ok
push_value-returns-in_ok-push-in-Struct-dtype-clause-ok t c =
    let row : c.as_slice-in-Struct-dtype.result.now ≡ c.in-Struct.values.value.items = c.as_slice-in-Struct-dtype.ensures.value ∙ ap (λ v. v.items) c.deref-in-Struct-dtype.ensures in
    let seen : raw_view c.args.value.now ≡ raw_struct (raws_of (map raw_view c.as_slice-in-Struct-dtype.result.now)) =
    ap raw_view c.in-Struct.is ∙ ap raw_view (sym (rolls-Struct c.in-Struct.values)) ∙ fold-roll-ScalarValue Raw raw_step (Struct c.in-Struct.values) ∙ ap (λ xs. raw_struct (raws_of (map raw_view xs))) (sym row) in
    let type : type_view c.args.dtype.now ≡ struct_ty c.in-Struct-dtype.fields c.in-Struct-dtype.field-1 = ap type_view c.in-Struct-dtype.is in
    let xs = raws_of (map raw_view c.as_slice-in-Struct-dtype.result.now) in
    subst (λ b. OnOk c.push_members.result (c.push_members.new.out.items ≡ c.args.out.now.items ++ b)) (sym (value_is _ _ _ _ type seen))
    (ok_then c.push_members.result (then_more c.args.out.now.items c.push-in-Struct-dtype.new.self.items c.push_members.new.out.items (members_bytes c.in-Struct-dtype.fields xs) 1 c.in_ok-push-in-Struct-dtype.ensures.items) c.push_members.ensures.ok)

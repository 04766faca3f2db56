use Rattle.std.proofs.Common.{rules, arith, ◌≡◌, ◌<◌, ◌≤◌, [], ◌∷◌, ◌++◌, length, map, drop, refl, sym, ap, ◌∙◌, inl, inr}
use Rattle.std.proofs.lemmas.Bool.{cases_lt}
use Rattle.std.proofs.Math.ListN.{get_or}
use lib.Utf8.{encode}
use Rattle.std.specs.String.{string_bytes}
use Rattle.vx_dtype.specs.TypeRules.{field_names}
use Rattle.vx_dtype.specs.TypeViews.{type_view}
use Rattle.vx_dtype.specs.RawViews.{raw_view, raws_of}
use Rattle.vx_dtype.specs.Texts.{quoted_text}
use Rattle.vx_dtype.proofs.FieldsFrom.{fields_from, has_type_at, depth-at}
use Rattle.vx_display.specs.RowTexts.{row_text_of, elements_text, members_text}
use Rattle.vx_display.proofs.RowLemmas.{elements_text-step, elements_text-end, all_fit_at, fields_fit_at, members_text-step, members_text-no_value, members_text-no_field, written_two, written_four, written_last}
use Rattle.vx_display.proofs.rows.+push.Goals as goal

pub push_elements-loop-i-preserved : goal.push_elements-loop-i-preserved
unfolding encode
push_elements-loop-i-preserved t c =
    let vs = c.args.values.now in
    let i = c.loop-i.i in
    let v = c.index-values-i.result in
    let within : i < length vs = search rules in
    let there : get_or vs i v ≡ v = search rules in
    let step = elements_text-step raw_view c.loop-i.separator.now vs (type_view c.args.dtype.now) i v within there in (
      (44 ∷ [], (refl, refl)),
      written_two (string_bytes c.loop-i.out) (string_bytes c.push_str-in-loop-i.new.self) (string_bytes c.push_value.new.out) c.loop-i.separator.now (row_text_of (raw_view v) (type_view c.args.dtype.now)) _ _
          c.in_ok-push_str-2.ensures.bytes c.in_ok-push_value.ensures
          (ap (λ rest. string_bytes c.loop-i.out ++ rest) (sym step) ∙ c.loop-i.invariant.1),
    )

pub push_elements-push_value-requires : goal.push_elements-push_value-requires
push_elements-push_value-requires t c =
    let vs = c.args.values.now in
    let v = c.index-values-i.result in
    let within : c.loop-i.i < length vs = search rules in
    let there : get_or vs c.loop-i.i v ≡ v = search rules in
    (omega (arith, c.decreases), all_fit_at raw_view vs (type_view c.args.dtype.now) c.loop-i.i v c.requires within there)

pub push_members-push_value-requires : goal.push_members-push_value-requires
push_members-push_value-requires t c =
    let vs = c.args.values.now in
    let fs = c.args.fields.now in
    let v = c.index-values-i.result in
    let ty = type_view c.in-Some-field_by_index.dtype.now in
    let within : c.loop-i.i < length vs = search rules in
    let there : get_or vs c.loop-i.i v ≡ v = search rules in
    let typed = sym c.in-Some-field_by_index.ensures in
    let d = depth-at c.loop-i.i fs ty typed in
    (omega (arith, d, c.decreases), fields_fit_at raw_view vs fs c.loop-i.i v ty c.requires within there typed)

pub push_elements-returns : goal.push_elements-returns
push_elements-returns t c =
    let past : length c.args.values.now ≤ c.loop-i.i = search rules in
    written_last (string_bytes c.args.out.now) (string_bytes c.loop-i.out) (string_bytes c.push_str-2.new.self) (93 ∷ []) _ (91 ∷ []) (elements_text [] (raws_of (map raw_view c.args.values.now)) (type_view c.args.dtype.now))
    c.in_ok-push_str-3.ensures.bytes
    (elements_text-end raw_view c.loop-i.separator.now c.args.values.now (type_view c.args.dtype.now) c.loop-i.i past)
    c.loop-i.invariant.1

pub push_members-unreachable-requires-in_default-field_by_index : goal.push_members-unreachable-requires-in_default-field_by_index
push_members-unreachable-requires-in_default-field_by_index t c =
    let within : c.loop-i.i < length (field_names c.args.fields.now) = search rules in
    has_type_at c.args.fields.now c.loop-i.i within c.in_default-field_by_index.ensures

pub push_members-loop-i-preserved : goal.push_members-loop-i-preserved
unfolding encode
push_members-loop-i-preserved t c =
    let vs = c.args.values.now in
    let fs = c.args.fields.now in
    let i = c.loop-i.i in
    let v = c.index-values-i.result in
    let f = c.in-Some.name.now in
    let ty = type_view c.in-Some-field_by_index.dtype.now in
    let within : i < length vs = search rules in
    let there : get_or vs i v ≡ v = search rules in
    let step = members_text-step raw_view c.loop-i.separator.now vs fs i v f ty within there (sym c.in-Some.ensures) (sym c.in-Some-field_by_index.ensures) in (
      (44 ∷ [], (refl, refl)),
      written_four (string_bytes c.loop-i.out) (string_bytes c.push_str-in-loop-i.new.self) (string_bytes c.push_quoted.new.out) (string_bytes c.push_str-in-loop-i-2.new.self) (string_bytes c.push_value.new.out)
          c.loop-i.separator.now (quoted_text f) (58 ∷ []) (row_text_of (raw_view v) ty) _ _
          c.in_ok-push_str-2.ensures.bytes (c.in_ok-push_quoted.ensures ∙ ap (λ s. string_bytes c.push_str-in-loop-i.new.self ++ quoted_text s) c.as_str.ensures) c.in_ok-push_str-3.ensures.bytes c.in_ok-push_value.ensures
          (ap (λ rest. string_bytes c.loop-i.out ++ rest) (sym step) ∙ c.loop-i.invariant.1),
    )

pub push_members-returns : goal.push_members-returns
push_members-returns t c =
    let vs = c.args.values.now in
    let i = c.loop-i.i in
    let none : members_text c.loop-i.separator.now (raws_of (map raw_view (drop i vs))) (fields_from i c.args.fields.now) ≡ [] =
    elim (cases_lt i (length vs)) [
      | inl more ↦
          let no_field : length (field_names c.args.fields.now) ≤ i = search rules in
          members_text-no_field c.loop-i.separator.now (raws_of (map raw_view (drop i vs))) c.args.fields.now i no_field
      | inr past ↦ members_text-no_value raw_view c.loop-i.separator.now vs c.args.fields.now i past
    ] in
    written_last (string_bytes c.args.out.now) (string_bytes c.loop-i.out) (string_bytes c.push_str-2.new.self) (125 ∷ []) _ (123 ∷ []) (members_text [] (raws_of (map raw_view vs)) c.args.fields.now)
    c.in_ok-push_str-4.ensures.bytes none c.loop-i.invariant.1

use Rattle.std.proofs.Common.{rules, arith, ◌<◌, ◌≤◌, [], ◌∷◌, ◌++◌, length, refl, sym, ap, ◌∙◌}
use lib.Utf8.{encode}
use Rattle.std.specs.String.{string_bytes}
use Rattle.vx_dtype.specs.TypeRules.{field_names}
use Rattle.vx_dtype.specs.TypeViews.{type_view}
use Rattle.vx_dtype.proofs.FieldsFrom.{fields_from, has_type_at, depth-at}
use Rattle.vx_laws_listing.specs.ListingTexts.{fields_json, name_json, type_json}
use Rattle.vx_listing.proofs.TextLemmas.{fields_step, fields_end, written_four, written_all}
use Rattle.vx_listing.proofs.columns.+push.Goals as goal

pub push_fields-loop-i-preserved : goal.push_fields-loop-i-preserved
unfolding encode
push_fields-loop-i-preserved t c =
    let fs = c.args.fields.now in
    let i = c.loop-i.i in
    let f = c.in-Some.name.now in
    let ty = type_view c.in-Some-field_by_index.dtype.now in
    let step = fields_step c.loop-i.separator.now fs i f ty (sym c.in-Some.ensures) (sym c.in-Some-field_by_index.ensures) in (
      (44 ∷ [], (refl, refl)),
      written_four (string_bytes c.loop-i.out) (string_bytes c.push_str.new.self) (string_bytes c.push_name.new.out) (string_bytes c.push_type.new.out) (string_bytes c.push_str-in-loop-i.new.self)
          c.loop-i.separator.now (name_json f) (type_json ty) (125 ∷ []) _ _
          c.in_ok-push_str.ensures.bytes (c.in_ok-push_name.ensures ∙ ap (λ s. string_bytes c.push_str.new.self ++ name_json s) c.as_str.ensures) c.in_ok-push_type.ensures c.in_ok-push_str-2.ensures.bytes
          (ap (λ rest. string_bytes c.loop-i.out ++ rest) (sym step) ∙ c.loop-i.invariant.1),
    )

pub push_fields-unreachable-requires-in_default-field_by_index : goal.push_fields-unreachable-requires-in_default-field_by_index
push_fields-unreachable-requires-in_default-field_by_index t c =
    let within : c.loop-i.i < length (field_names c.args.fields.now) = search rules in
    has_type_at c.args.fields.now c.loop-i.i within c.in_default-field_by_index.ensures

pub push_fields-push_type-requires : goal.push_fields-push_type-requires
push_fields-push_type-requires t c =
    let d = depth-at c.loop-i.i c.args.fields.now (type_view c.in-Some-field_by_index.dtype.now) (sym c.in-Some-field_by_index.ensures) in
    omega (arith, d, c.decreases)

pub push_fields-returns : goal.push_fields-returns
push_fields-returns t c =
    let past : length (field_names c.args.fields.now) ≤ c.loop-i.i = search rules in
    written_all (string_bytes c.loop-i.out) (fields_json c.loop-i.separator.now (fields_from c.loop-i.i c.args.fields.now)) _
    (fields_end c.loop-i.separator.now c.args.fields.now c.loop-i.i past)
    c.loop-i.invariant.1

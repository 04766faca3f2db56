use Rattle.std.proofs.Common.{rules, arith, ◌<◌, ◌≤◌, [], ◌∷◌, length, refl, sym, ap, ◌∙◌, Some}
use lib.Utf8.{encode}
use Rattle.vx_dtype.specs.TypeRules.{field_names}
use Rattle.vx_dtype.specs.TypeViews.{type_view}
use Rattle.vx_dtype.proofs.FieldsFrom.{has_type_at, depth-at}
use Rattle.vx_dtype.proofs.PrintingLemmas.{has_begun_more, has_written_begun}
use Rattle.vx_text.proofs.ConstantLemmas.{labels_text_step, labels_text_end}
use Rattle.vx_text.proofs.constants.+types.Goals as goal

pub write_labels-write_type-requires : goal.write_labels-write_type-requires
write_labels-write_type-requires g t c κs within =
    let d = depth-at c.loop-i.i c.args.fields.now (type_view c.in-Some-field_by_index.dtype.now) (sym c.in-Some-field_by_index.ensures) in
    (omega (arith, d, c.decreases), search rules)

pub write_labels-unreachable-requires-in_default-field_by_index : goal.write_labels-unreachable-requires-in_default-field_by_index
write_labels-unreachable-requires-in_default-field_by_index g t c =
    let within : c.loop-i.i < length (field_names c.args.fields.now) = search rules in
    has_type_at c.args.fields.now c.loop-i.i within c.in_default-field_by_index.ensures

pub write_labels-loop-i-preserved : goal.write_labels-loop-i-preserved
unfolding encode
write_labels-loop-i-preserved g t c =
    let fs = c.args.fields.now in
    let i = c.loop-i.i in
    let f = c.as_str.result.now in
    let ty = type_view c.in-Some-field_by_index.dtype.now in
    let named = sym c.in-Some.ensures ∙ ap Some (sym c.as_str.ensures) in
    let step = labels_text_step c.loop-i.separator.now fs i f ty named (sym c.in-Some-field_by_index.ensures) in (
      (44 ∷ 32 ∷ [], (refl, refl)),
      λ plain.
          let begun = c.loop-i.invariant.1 plain in
          let separated = has_begun_more _ _ _ _ _ _ _ _ step begun (c.in_ok-write_str.ensures.writes begun.1.plain refl) in
          let with_name = has_begun_more _ _ _ _ _ _ _ _ refl separated (c.in_ok-write.ensures.writes separated.1.plain refl) in
          let with_colon = has_begun_more _ _ _ _ _ _ _ _ refl with_name (c.in_ok-write_str-2.ensures.writes with_name.1.plain refl) in
          has_begun_more _ _ _ _ _ _ _ _ refl with_colon (c.in_ok-write_type.ensures with_colon.1.plain refl),
    )

pub write_labels-returns : goal.write_labels-returns
write_labels-returns g t c = λ plain _.
    let past : length (field_names c.args.fields.now) ≤ c.loop-i.i = search rules in
    has_written_begun _ _ _ _ _ (labels_text_end c.loop-i.separator.now c.args.fields.now c.loop-i.i past) (c.loop-i.invariant.1 plain)

use Rattle.std.proofs.Common.{rules, ◌≡◌, ◌<◌, ◌≤◌, [], ◌∷◌, length, map, refl, ap, inl, inr, arith}
use Rattle.std.proofs.lemmas.Bool.{cases_lt}
use Rattle.std.proofs.Math.ListN.{get_or}
use lib.Utf8.{encode}
use Rattle.vx_dtype.specs.ScalarTexts.{members_text}
use Rattle.vx_dtype.specs.TypeViews.{type_view}
use Rattle.vx_dtype.specs.RawViews.{raw_view, raws_of}
use Rattle.vx_dtype.proofs.PrintingLemmas.{has_begun_nothing, has_begun_more, has_written_begun, items_text_step, members_text_step, members_text_no_value, members_text_no_field}
use Rattle.vx_dtype.proofs.types.printing.+printing.Goals as goal

pub write_items-loop-i-preserved : goal.write_items-loop-i-preserved
unfolding encode
write_items-loop-i-preserved g t c =
    let vs = c.args.values.now in
    let i = c.loop-i.i in
    let v = c.index-values-i.result in
    let within : i < length vs = search rules in
    let there : get_or vs i v ≡ v = search rules in
    let step = items_text_step raw_view c.loop-i.separator.now vs (type_view c.args.dtype.now) i v within there in (
      (44 ∷ 32 ∷ [], (refl, refl)),
      λ plain.
          let begun = c.loop-i.invariant.1 plain in
          let separated = has_begun_more _ _ _ _ _ _ _ _ step begun (c.in_ok-write_str.ensures.writes begun.1.plain refl) in
          has_begun_more _ _ _ _ _ _ _ _ refl separated (c.in_ok-write_value.ensures separated.1.plain refl),
    )

pub write_members-loop-i-init : goal.write_members-loop-i-init
write_members-loop-i-init g t c = (
  ([], (refl, refl)),
  has_begun_nothing _ _ _ _ (ap (members_text [] (raws_of (map raw_view c.args.values.now))) c.fields.view_is),
)

pub write_members-loop-i-preserved : goal.write_members-loop-i-preserved
unfolding encode
write_members-loop-i-preserved g t c =
    let vs = c.args.values.now in
    let names = c.fields.inside.names in
    let dtypes = c.fields.inside.dtypes.value.items in
    let i = c.loop-i.i in
    let v = c.index-values-i.result in
    let name = c.as_str.result.now in
    let dtype = c.index.result.now in
    let within : i < length vs = search rules in
    let typed : i < length dtypes = search rules in
    let named : i < length names = omega (arith, typed, c.fields.invariant.0) in
    let value_there : get_or vs i v ≡ v = search rules in
    let name_there : get_or names i name ≡ name = search rules in
    let type_there : get_or dtypes i dtype ≡ dtype = search rules in
    let step = members_text_step raw_view type_view c.loop-i.separator.now vs names dtypes i v name dtype within named typed value_there name_there type_there in (
      (44 ∷ 32 ∷ [], (refl, refl)),
      λ plain.
          let begun = c.loop-i.invariant.1 plain in
          let separated = has_begun_more _ _ _ _ _ _ _ _ step begun (c.in_ok-write_str.ensures.writes begun.1.plain refl) in
          let with_name = has_begun_more _ _ _ _ _ _ _ _ refl separated (c.in_ok-write_str-2.ensures.writes separated.1.plain refl) in
          let with_colon = has_begun_more _ _ _ _ _ _ _ _ refl with_name (c.in_ok-write_str-3.ensures.writes with_name.1.plain refl) in
          has_begun_more _ _ _ _ _ _ _ _ refl with_colon (c.in_ok-write_value.ensures with_colon.1.plain refl),
    )

pub write_members-returns : goal.write_members-returns
write_members-returns g t c = λ plain _.
    let vs = c.args.values.now in
    let names = c.fields.inside.names in
    let dtypes = c.fields.inside.dtypes.value.items in
    let i = c.loop-i.i in
    let begun = c.loop-i.invariant.1 plain in
    elim (cases_lt i (length vs)) [
      | inl more ↦
          let no_type : length dtypes ≤ i = search rules in
          let no_name : length names ≤ i = omega (arith, no_type, c.fields.invariant.0) in
          has_written_begun _ _ _ _ _ (members_text_no_field raw_view type_view c.loop-i.separator.now vs names dtypes i no_name no_type) begun
      | inr none ↦
          has_written_begun _ _ _ _ _ (members_text_no_value raw_view type_view c.loop-i.separator.now vs names dtypes i none) begun
    ]

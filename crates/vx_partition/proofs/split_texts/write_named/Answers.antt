use Rattle.std.proofs.Common.{rules, ◌≡◌, ◌<◌, ◌≤◌, [], ◌∷◌, length, drop, refl, inl, inr}
use Rattle.std.proofs.lemmas.Bool.{cases_lt}
use Rattle.std.proofs.Math.ListN.{get_or}
use lib.Utf8.{encode}
use Rattle.vx_dtype.proofs.PrintingLemmas.{has_begun_more, has_written_begun}
use Rattle.vx_expr.specs.Trees.{trees_of}
use Rattle.vx_expr.specs.CompactTexts.{named_texts}
use Rattle.vx_partition.proofs.NamedLemmas.{named_texts_step, named_texts_no_name, named_texts_no_value}
use Rattle.vx_partition.proofs.split_texts.write_named.Goals as goal

pub loop-i-preserved : goal.loop-i-preserved
unfolding encode
loop-i-preserved g c =
    let names = c.args.names.now in
    let es = c.args.values.now in
    let i = c.loop-i.i in
    let name = c.as_str.result.now in
    let e = c.index-values-i.result in
    let within : i < length es = search rules in
    let has_name : i < length names = search rules in
    let there : get_or es i e ≡ e = search rules in
    let named : get_or names i name ≡ name = search rules in
    let step = named_texts_step c.loop-i.separator.now names es i name e has_name within named there in (
      (44 ∷ 32 ∷ [], (refl, refl)),
      λ plain.
          let begun = c.loop-i.invariant.1 plain in
          let separated = has_begun_more _ _ _ _ _ _ _ _ step begun (c.in_ok-write_str.ensures.writes begun.1.plain refl) in
          let with_name = has_begun_more _ _ _ _ _ _ _ _ refl separated (c.in_ok-write_str-2.ensures.writes separated.1.plain refl) in
          let with_colon = has_begun_more _ _ _ _ _ _ _ _ refl with_name (c.in_ok-write_str-3.ensures.writes with_name.1.plain refl) in
          has_begun_more _ _ _ _ _ _ _ _ refl with_colon (c.in_ok-write.ensures.writes with_colon.1.plain refl),
    )

pub returns : goal.returns
returns g c = λ plain _.
    let names = c.args.names.now in
    let es = c.args.values.now in
    let i = c.loop-i.i in
    let none : named_texts c.loop-i.separator.now (drop i names) (trees_of (drop i es)) ≡ [] =
    elim (cases_lt i (length es)) [
      | inl more ↦
          let no_name : length names ≤ i = search rules in
          named_texts_no_name c.loop-i.separator.now names (trees_of (drop i es)) i no_name
      | inr past ↦ named_texts_no_value c.loop-i.separator.now (drop i names) es i past
    ] in
    has_written_begun _ _ _ _ _ none (c.loop-i.invariant.1 plain)

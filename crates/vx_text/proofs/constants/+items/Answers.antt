use Rattle.std.proofs.Common.{rules, ◌≡◌, ◌<◌, ◌≤◌, [], ◌∷◌, length, refl}
use Rattle.std.proofs.Math.ListN.{get_or}
use lib.Utf8.{encode}
use Rattle.vx_dtype.specs.RawViews.{raw_view}
use Rattle.vx_dtype.proofs.PrintingLemmas.{has_begun_more, has_written_begun}
use Rattle.vx_text.proofs.ConstantLemmas.{items_text_step, items_text_end}
use Rattle.vx_text.proofs.constants.+items.Goals as goal

pub write_items-loop-i-preserved : goal.write_items-loop-i-preserved
unfolding encode
write_items-loop-i-preserved g t c =
    let vs = c.args.values.now in
    let i = c.loop-i.i in
    let v = c.index-values-i.result in
    let within : i < length vs = search rules in
    let there : get_or vs i v ≡ v = search rules in
    let step = items_text_step raw_view c.loop-i.separator.now vs i v within there in (
      (44 ∷ 32 ∷ [], (refl, refl)),
      λ plain.
          let begun = c.loop-i.invariant.1 plain in
          let separated = has_begun_more _ _ _ _ _ _ _ _ step begun (c.in_ok-write_str.ensures.writes begun.1.plain refl) in
          has_begun_more _ _ _ _ _ _ _ _ refl separated (c.in_ok-write_item.ensures separated.1.plain refl),
    )

pub write_items-returns : goal.write_items-returns
write_items-returns g t c = λ plain _.
    let past : length c.args.values.now ≤ c.loop-i.i = search rules in
    has_written_begun _ _ _ _ _ (items_text_end raw_view c.loop-i.separator.now c.args.values.now c.loop-i.i past) (c.loop-i.invariant.1 plain)

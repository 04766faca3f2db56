use Rattle.std.proofs.Common.{rules, ◌≡◌, ◌<◌, ◌≤◌, [], ◌∷◌, length, refl}
use Rattle.std.proofs.Math.ListN.{get_or}
use lib.Utf8.{encode}
use Rattle.vx_dtype.proofs.PrintingLemmas.{has_begun_more, has_written_begun}
use Rattle.vx_tokens.proofs.MarkLemmas.{names_text_step, names_text_end}
use Rattle.vx_tokens.proofs.marks.write_names.Goals as goal

pub loop-i-preserved : goal.loop-i-preserved
unfolding encode
loop-i-preserved g c =
    let names = c.args.names.now in
    let i = c.loop-i.i in
    let name = c.as_str.result.now in
    let within : i < length names = search rules in
    let named : get_or names i name ≡ name = search rules in
    let step = names_text_step c.loop-i.separator.now names i name within named in (
      (44 ∷ 32 ∷ [], (refl, refl)),
      λ plain.
          let begun = c.loop-i.invariant.1 plain in
          let separated = has_begun_more _ _ _ _ _ _ _ _ step begun (c.in_ok-write_str.ensures.writes begun.1.plain refl) in
          has_begun_more _ _ _ _ _ _ _ _ refl separated (c.in_ok-write_name.ensures separated.1.plain refl),
    )

pub returns : goal.returns
returns g c = λ plain _.
    let past : length c.args.names.now ≤ c.loop-i.i = search rules in
    has_written_begun _ _ _ _ _ (names_text_end c.loop-i.separator.now c.args.names.now c.loop-i.i past) (c.loop-i.invariant.1 plain)

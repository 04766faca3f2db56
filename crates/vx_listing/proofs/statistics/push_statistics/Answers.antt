use Rattle.std.proofs.Common.{rules, ◌≡◌, ◌<◌, ◌≤◌, [], ◌∷◌, ◌++◌, length, map, drop, refl, sym, ap, ◌∙◌}
use Rattle.std.proofs.Math.ListN.{get_or}
use lib.Utf8.{encode}
use Rattle.std.specs.String.{string_bytes}
use Rattle.vx_laws_listing.specs.ListingTexts.{stat_json, with_commas}
use Rattle.vx_listing.specs.StatViews.{known_view}
use Rattle.vx_listing.proofs.TextLemmas.{items_step, items_end, written_two, written_all}
use Rattle.vx_listing.proofs.statistics.push_statistics.Goals as goal

pub loop-i-preserved : goal.loop-i-preserved
unfolding encode
loop-i-preserved c =
    let known = c.args.known.now in
    let i = c.loop-i.i in
    let one = c.index-known-i.result in
    let within : i < length known = search rules in
    let there : get_or known i one ≡ one = search rules in
    let step = items_step known_view stat_json c.loop-i.separator.now known i one within there in (
      (44 ∷ [], (refl, refl)),
      written_two (string_bytes c.loop-i.out) (string_bytes c.push_str.new.self) (string_bytes c.push_statistic.new.out) c.loop-i.separator.now (stat_json (known_view one)) _ _
          c.in_ok-push_str.ensures.bytes c.in_ok-push_statistic.ensures
          (ap (λ rest. string_bytes c.loop-i.out ++ rest) (sym step) ∙ c.loop-i.invariant.1),
    )

pub returns : goal.returns
returns c =
    let past : length c.args.known.now ≤ c.loop-i.i = search rules in
    written_all (string_bytes c.loop-i.out) (with_commas stat_json c.loop-i.separator.now (map known_view (drop c.loop-i.i c.args.known.now))) _
    (items_end known_view stat_json c.loop-i.separator.now c.args.known.now c.loop-i.i past)
    c.loop-i.invariant.1

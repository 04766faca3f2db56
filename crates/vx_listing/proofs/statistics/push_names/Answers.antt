use Rattle.std.proofs.Common.{rules, ◌≡◌, ◌<◌, ◌≤◌, [], ◌∷◌, ◌++◌, length, map, drop, refl, sym, ap, ◌∙◌}
use Rattle.std.proofs.Math.ListN.{get_or}
use lib.Utf8.{encode}
use Rattle.std.specs.String.{string_bytes}
use Rattle.vx_dtype.specs.PathViews.{part_name}
use Rattle.vx_dtype.specs.Texts.{quoted_text}
use Rattle.vx_laws_listing.specs.ListingTexts.{with_commas}
use Rattle.vx_listing.proofs.TextLemmas.{items_step, items_end, written_two, written_all}
use Rattle.vx_listing.proofs.statistics.push_names.Goals as goal

pub loop-i-preserved : goal.loop-i-preserved
unfolding encode
loop-i-preserved c =
    let parts = c.args.parts.now in
    let i = c.loop-i.i in
    let part = c.index-parts-i.result in
    let within : i < length parts = search rules in
    let there : get_or parts i part ≡ part = search rules in
    let step = items_step part_name quoted_text c.loop-i.separator.now parts i part within there in (
      (44 ∷ [], (refl, refl)),
      written_two (string_bytes c.loop-i.out) (string_bytes c.push_str.new.self) (string_bytes c.push_part.new.out) c.loop-i.separator.now (quoted_text (part_name part)) _ _
          c.in_ok-push_str.ensures.bytes c.in_ok-push_part.ensures
          (ap (λ rest. string_bytes c.loop-i.out ++ rest) (sym step) ∙ c.loop-i.invariant.1),
    )

pub returns : goal.returns
returns c =
    let past : length c.args.parts.now ≤ c.loop-i.i = search rules in
    written_all (string_bytes c.loop-i.out) (with_commas quoted_text c.loop-i.separator.now (map part_name (drop c.loop-i.i c.args.parts.now))) _
    (items_end part_name quoted_text c.loop-i.separator.now c.args.parts.now c.loop-i.i past)
    c.loop-i.invariant.1

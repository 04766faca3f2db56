use Rattle.std.proofs.Common.{[], ◌++◌, List, ap, codes, ◌∙◌}
use Rattle.std.specs.String.{string_bytes}
use Rattle.vx_dtype.specs.declared.Stat.{Stat}
use Rattle.vx_dtype.specs.Types.{Bytes}
use Rattle.vx_dtype.specs.Texts.{quoted_text}
use Rattle.vx_laws_listing.specs.ListingTexts.{kind_json, scalar_json, with_commas}
use Rattle.vx_listing.proofs.TextLemmas.{written_five_end}
use Rattle.vx_listing.proofs.statistics.push_statistic.Goals as goal

pub returns : goal.returns
returns c =
    let known = c.args.known.now in
    let path = c.in_ok-push_path.ensures ∙ ap (λ (names : List Bytes). string_bytes c.push_str.new.self ++ with_commas quoted_text [] names) c.path.ensures in
    let kind = c.in_ok-push_kind.ensures ∙ ap (λ (stat : Stat). string_bytes c.push_path.new.out ++ kind_json stat) c.stat.ensures in
    written_five_end (string_bytes c.args.out.now) (string_bytes c.push_str.new.self) (string_bytes c.push_path.new.out) (string_bytes c.push_kind.new.out) (string_bytes c.push_scalar.new.out) (string_bytes c.push_str-2.new.self)
    (codes "{\"path\":[") (with_commas quoted_text [] known.statistic.now.path) (kind_json known.statistic.now.stat) (scalar_json known.value) (codes "]}")
    c.in_ok-push_str.ensures.bytes path kind c.in_ok-push_scalar.ensures c.in_ok-push_str-2.ensures.bytes

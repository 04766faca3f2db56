use Rattle.std.proofs.Common.{◌≡◌, true, Some, ap, sym, ◌∙◌, map, option_map}
use Rattle.std.specs.Option.{option_and_then}
use Rattle.serde_json.specs.View.{items_view}
use Rattle.vx_dtype.specs.TypeRules.{is_plain}
use Rattle.vx_dtype.specs.TypeViews.{type_view}
use Rattle.vx_zones.specs.LeafTypes.{nullable, plain_from}
use Rattle.vx_zones.specs.Zoning.{statistic_type}
use Rattle.vx_zones.proofs.PlainLemmas.{plain_statistic}
use Rattle.vx_request.specs.Cells.{column_in}
use Rattle.vx_request.specs.RequestViews.{name_view, stat_view}
use Rattle.vx_request.proofs.StatLemmas.{unread_path, column_read, unread_cells, read_cells}
use Rattle.vx_request.proofs.stats.stat_of.Goals as goal

pub returns-in_default : goal.returns-in_default
returns-in_default c =
    let s = stat_view c.args.stat.now in
    let types = plain_from (type_view c.args.row.now) in
    let path = c.in_ok-path.ensures ∙ ap (map name_view) c.as_slice.ensures.value in
    unread_path types s
    (ap (option_map type_view) (sym c.in_default.is) ∙ c.in_ok-dtype.ensures ∙ ap (λ p. option_map nullable (option_and_then (statistic_type s.stat) (types p))) path)

pub returns-in-None : goal.returns-in-None
returns-in-None c =
    let s = stat_view c.args.stat.now in
    let row = type_view c.args.row.now in
    let t = type_view c.in-Some.dtype in
    let path = c.in_ok-path.ensures ∙ ap (map name_view) c.as_slice.ensures.value in
    let own =
    ap (option_map type_view) (sym c.in-Some.is) ∙ c.in_ok-dtype.ensures ∙ ap (λ p. option_map nullable (option_and_then (statistic_type s.stat) (plain_from row p))) path in
    let told = sym c.in-None.is ∙ c.in_ok-values.ensures ∙ ap (λ vs. column_in t (items_view vs)) c.as_slice-2.ensures.value in
    unread_cells (plain_from row) s t (plain_statistic row s.path s.stat t own) own told

pub new-requires : goal.new-requires
new-requires c =
    let s = stat_view c.args.stat.now in
    let row = type_view c.args.row.now in
    let t = type_view c.in-Some.dtype in
    let path = c.in_ok-path.ensures ∙ ap (map name_view) c.as_slice.ensures.value in
    let own =
    ap (option_map type_view) (sym c.in-Some.is) ∙ c.in_ok-dtype.ensures ∙ ap (λ p. option_map nullable (option_and_then (statistic_type s.stat) (plain_from row p))) path in
    let plain = plain_statistic row s.path s.stat t own in
    let told = sym c.in-Some-2.is ∙ c.in_ok-values.ensures ∙ ap (λ vs. column_in t (items_view vs)) c.as_slice-2.ensures.value in
    ap is_plain (column_read t plain s.values (Some c.in-Some-2.values) told).1 ∙ plain

pub returns-in_ok-new-in-Some-2 : goal.returns-in_ok-new-in-Some-2
returns-in_ok-new-in-Some-2 c =
    let s = stat_view c.args.stat.now in
    let row = type_view c.args.row.now in
    let t = type_view c.in-Some.dtype in
    let path = c.in_ok-path.ensures ∙ ap (map name_view) c.as_slice.ensures.value in
    let own =
    ap (option_map type_view) (sym c.in-Some.is) ∙ c.in_ok-dtype.ensures ∙ ap (λ p. option_map nullable (option_and_then (statistic_type s.stat) (plain_from row p))) path in
    let told = sym c.in-Some-2.is ∙ c.in_ok-values.ensures ∙ ap (λ vs. column_in t (items_view vs)) c.as_slice-2.ensures.value in
    read_cells (plain_from row) s t (plain_statistic row s.path s.stat t own) own c.in-Some-2.values told c.in_ok-path.path c.in_ok-new-in-Some-2.field-0 path c.in_ok-new-in-Some-2.ensures

use Rattle.std.proofs.Common.{◌≡◌, ◌∙◌, ap, map, None}
use Rattle.vx_semantics.specs.Tables.{Zones}
use Rattle.vx_column.specs.Columns.{zip_rows}
use Rattle.vx_zones.specs.Zoning.{broken_rule}
use Rattle.vx_zones.specs.ZoneViews.{stat_view}
use Rattle.vx_calls.specs.BlockZones.{told_statistic, zones_told}
use Rattle.vx_calls.specs.Statistics.{needed_statistics}
use Rattle.vx_calls.proofs.CellLemmas.{cells_plain}
use Rattle.vx_calls.proofs.StatisticLemmas.{columns_follow}
use Rattle.vx_calls.proofs.ZoneLemmas.{told_follow}
use Rattle.vx_calls.proofs.zones.told_zones.Goals as goal

pub told_statistics-requires-clause-plain : goal.told_statistics-requires-clause-plain
told_statistics-requires-clause-plain c =
    let typed = c.args.typed.now in
    cells_plain typed.zones.columns (needed_statistics typed.zones.columns typed.tree) c.args.cells.now c.requires.types

pub sound-requires : goal.sound-requires
sound-requires c =
    let typed = c.args.typed.now in
    let columns = typed.zones.columns in
    let cells = c.args.cells.now in
    let fields = c.in_ok-fields.ensures.cases ∙ c.columns_of.ensures.columns in
    let stats = c.in_ok-statistics.ensures ∙ ap (λ qs. zip_rows told_statistic qs cells) c.requires.needed in
    let made : Zones =
    record { columns = c.in_ok-fields.fields; lengths = c.in_ok-rows.rows.items; stats = map stat_view c.in_ok-statistics.statistics.items } in
    let same : made ≡ zones_told columns c.args.lengths.now typed.tree cells =
    λ i. record { columns = fields i; lengths = c.in_ok-rows.ensures.items i; stats = stats i } in
    let rules = columns_follow typed.zones c.columns_of.ensures.rules in
    let sound : broken_rule made ≡ None =
    ap broken_rule same ∙ told_follow columns c.args.lengths.now typed.tree cells rules.0 rules.1 c.requires.types c.requires.rows in
    (made, c.try_new.ensures, sound)

use Rattle.std.proofs.Common.{◌≡◌, ◌∙◌, ap, map, [], None}
use Rattle.vx_semantics.specs.Tables.{Zones}
use Rattle.vx_zones.specs.Zoning.{broken_rule}
use Rattle.vx_zones.specs.ZoneViews.{stat_view}
use Rattle.vx_calls.proofs.StatisticLemmas.{empty_follows}
use Rattle.vx_calls.proofs.statistics.without_blocks.Goals as goal

pub sound-requires : goal.sound-requires
sound-requires c =
    let zones = c.args.zones.now in
    let fields = c.in_ok-fields.ensures.cases ∙ c.columns_of.ensures.columns in
    let made : Zones = record { columns = c.in_ok-fields.fields; lengths = c.new-lengths.result.items; stats = map stat_view c.new-statistics.result.items } in
    let empty : Zones = record { columns = zones.columns; lengths = []; stats = [] } in
    let same : made ≡ empty =
    λ i. record { columns = fields i; lengths = c.new-lengths.ensures.items i; stats = map stat_view (c.new-statistics.ensures.items i) } in
    let sound : broken_rule made ≡ None = ap broken_rule same ∙ empty_follows zones c.columns_of.ensures.rules in
    (made, c.try_new.ensures, sound)

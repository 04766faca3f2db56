use Rattle.std.proofs.Common.{◌≡◌, ◌∙◌, ap, List, [], map}
use Rattle.vx_semantics.specs.Tables.{ZoneStat, Zones}
use Rattle.vx_zones.specs.Zoning.{broken_rule}
use Rattle.vx_zones.specs.ZoneViews.{stat_view}
use Rattle.vx_csv.proofs.ZoneLemmas.{no-rule-broken}
use Rattle.vx_csv.proofs.tables.zones_of.Goals as goal

pub sound-requires : goal.sound-requires
sound-requires c =
    let made : List ZoneStat → Zones = λ stats. record { columns = c.args.fields; lengths = c.args.lengths.items; stats = stats } in
    let none : map stat_view c.new.result.items ≡ [] = ap (map stat_view) c.new.ensures.items in
    (made (map stat_view c.new.result.items), c.try_new.ensures, ap (λ (stats : List ZoneStat). broken_rule (made stats)) none ∙ no-rule-broken c.args.fields c.args.lengths.items c.requires.names c.requires.plain)

use Rattle.std.proofs.Common.{map, sym, ap, ◌∙◌}
use Rattle.std.specs.Prelude.{option_map}
use Rattle.std.proofs.lemmas.List.{map_push}
use Rattle.vx_dtype.specs.TypeViews.{type_view}
use Rattle.vx_zones.specs.LeafTypes.{plain_from}
use Rattle.vx_zones.specs.ZoneViews.{stat_view}
use Rattle.vx_laws_file.specs.HeaderReading.{statistic_by}
use Rattle.vx_file_bytes.proofs.ItemLemmas.{items_start, items_go_on, no_item, items_end}
use Rattle.vx_file_bytes.proofs.statistics_reading.some_statistics.Goals as goal

pub loop-init : goal.loop-init
loop-init c =
    items_start (statistic_by (plain_from (type_view c.args.row.now)) c.args.lengths.now) c.args.number c.args.bytes.now (map stat_view c.new-stats.result.items) (ap (map stat_view) c.new-stats.ensures.items)

pub returns-in_default : goal.returns-in_default
returns-in_default c =
    no_item (statistic_by (plain_from (type_view c.args.row.now)) c.args.lengths.now) c.args.number c.args.bytes.now c.loop.counter c.loop.rest.now (map stat_view c.loop.stats.items) c.loop-test.true
    (ap (option_map (λ x. (stat_view x.0, x.1.now))) (sym c.in_default.is) ∙ c.in_ok-stat.ensures) c.loop.invariant

pub loop-preserved : goal.loop-preserved
loop-preserved c =
    items_go_on (statistic_by (plain_from (type_view c.args.row.now)) c.args.lengths.now) c.args.number c.args.bytes.now c.loop.counter c.loop.rest.now (map stat_view c.loop.stats.items)
    (map stat_view c.push.new.self.items) (stat_view c.in-Some.stat) c.in-Some.after.now c.loop-test.true
    (ap (option_map (λ x. (stat_view x.0, x.1.now))) (sym c.in-Some.is) ∙ c.in_ok-stat.ensures)
    (ap (map stat_view) c.in_ok-push.ensures.items ∙ map_push stat_view c.loop.stats.items c.in-Some.stat) c.loop.invariant

pub returns : goal.returns
returns c =
    items_end (statistic_by (plain_from (type_view c.args.row.now)) c.args.lengths.now) c.args.number c.args.bytes.now c.loop.counter c.loop.rest.now (map stat_view c.loop.stats.items) c.loop-test.false c.loop.invariant

use Rattle.std.proofs.Common.{◌≡◌, map, ap, ◌∙◌, subst}
use Rattle.std.specs.Prelude.{IfOk, option_map}
use Rattle.vx_zones.specs.ZoneViews.{stat_view}
use Rattle.vx_laws_file.specs.HeaderReading.{items_with, statistic_at}
use Rattle.vx_file_bytes.proofs.HeaderSteps.{not_counted, counted_are}
use Rattle.vx_file_bytes.proofs.statistics_reading.statistics_front.Goals as goal

pub returns-in_default : goal.returns-in_default
returns-in_default c = not_counted (statistic_at c.args.columns.now c.args.lengths.now) c.args.bytes.now c.in_default.ensures

pub returns : goal.returns
returns c =
    let lengths = c.args.lengths.now in
    let read = statistic_at c.args.columns.now lengths in
    let by_row = ap (λ fs. statistic_at fs lengths) c.in_ok-clone.ensures.cases in
    subst (λ r. IfOk c.some_statistics.result (λ found. option_map (λ x. (map stat_view x.0.items, x.1.now)) found ≡ r))
    (ap (λ r. items_with r c.in-Some.number c.in-Some.rest.now) by_row ∙ counted_are read c.args.bytes.now c.in-Some.number c.in-Some.rest.now c.in-Some.ensures)
    c.some_statistics.ensures

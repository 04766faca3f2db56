use Rattle.std.proofs.Common.{◌≡◌, map, length, sym, ap, ◌∙◌, arith}
use Rattle.std.specs.Prelude.{option_map}
use Rattle.vx_zones.specs.ZoneViews.{stat_view}
use Rattle.vx_laws_file.specs.HeaderReading.{counted_with, statistic_at, range_lengths_at}
use Rattle.vx_file_bytes.proofs.HeaderSteps.{no_columns, no_lengths, no_statistics, no_ranges, header_there}
use Rattle.vx_file_bytes.proofs.header_reading.header_front.Goals as goal

pub returns-in_default : goal.returns-in_default
returns-in_default c = no_columns c.args.bytes.now (ap (option_map (λ x. (x.0, x.1.now))) (sym c.in_default.is) ∙ c.in_ok-fields.ensures)

pub returns-in_default-2 : goal.returns-in_default-2
returns-in_default-2 c =
    no_lengths c.args.bytes.now c.in-Some.fields c.in-Some.rest.now
    (ap (option_map (λ x. (x.0, x.1.now))) (sym c.in-Some.is) ∙ c.in_ok-fields.ensures)
    (ap (option_map (λ x. (x.0.items, x.1.now))) (sym c.in_default-2.is) ∙ c.in_ok-lengths.ensures)

pub returns-in_default-3 : goal.returns-in_default-3
returns-in_default-3 c =
    no_statistics c.args.bytes.now c.in-Some.fields c.in-Some.rest.now c.in-Some-2.lengths.items c.in-Some-2.rest.now
    (ap (option_map (λ x. (x.0, x.1.now))) (sym c.in-Some.is) ∙ c.in_ok-fields.ensures)
    (ap (option_map (λ x. (x.0.items, x.1.now))) (sym c.in-Some-2.is) ∙ c.in_ok-lengths.ensures)
    (ap (option_map (λ x. (map stat_view x.0.items, x.1.now))) (sym c.in_default-3.is) ∙ c.in_ok-stats.ensures ∙ ap (λ ns. counted_with (statistic_at c.in-Some.fields ns) c.in-Some-2.rest.now) c.as_slice.ensures.value)

pub returns-in_default-4 : goal.returns-in_default-4
returns-in_default-4 c =
    let blocks : c.len.result ≡ length c.in-Some-2.lengths.items = omega (arith, c.len.ensures, c.in-Some-2.lengths.ok) in
    no_ranges c.args.bytes.now c.in-Some.fields c.in-Some.rest.now c.in-Some-2.lengths.items c.in-Some-2.rest.now (map stat_view c.in-Some-3.stats.items) c.in-Some-3.rest.now
    (ap (option_map (λ x. (x.0, x.1.now))) (sym c.in-Some.is) ∙ c.in_ok-fields.ensures)
    (ap (option_map (λ x. (x.0.items, x.1.now))) (sym c.in-Some-2.is) ∙ c.in_ok-lengths.ensures)
    (ap (option_map (λ x. (map stat_view x.0.items, x.1.now))) (sym c.in-Some-3.is) ∙ c.in_ok-stats.ensures ∙ ap (λ ns. counted_with (statistic_at c.in-Some.fields ns) c.in-Some-2.rest.now) c.as_slice.ensures.value)
    (ap (option_map (λ x. (map (λ ns. ns.items) x.0.items, x.1.now))) (sym c.in_default-4.is) ∙ c.in_ok-range_lengths.ensures
    ∙ (λ i. range_lengths_at (blocks i) (c.nfields.ensures i) c.in-Some-3.rest.now))

pub returns : goal.returns
returns c =
    let blocks : c.len.result ≡ length c.in-Some-2.lengths.items = omega (arith, c.len.ensures, c.in-Some-2.lengths.ok) in
    header_there c.args.bytes.now c.in-Some.fields c.in-Some.rest.now c.in-Some-2.lengths.items c.in-Some-2.rest.now (map stat_view c.in-Some-3.stats.items) c.in-Some-3.rest.now
    (map (λ ns. ns.items) c.in-Some-4.range_lengths.items) c.in-Some-4.rest.now
    (ap (option_map (λ x. (x.0, x.1.now))) (sym c.in-Some.is) ∙ c.in_ok-fields.ensures)
    (ap (option_map (λ x. (x.0.items, x.1.now))) (sym c.in-Some-2.is) ∙ c.in_ok-lengths.ensures)
    (ap (option_map (λ x. (map stat_view x.0.items, x.1.now))) (sym c.in-Some-3.is) ∙ c.in_ok-stats.ensures ∙ ap (λ ns. counted_with (statistic_at c.in-Some.fields ns) c.in-Some-2.rest.now) c.as_slice.ensures.value)
    (ap (option_map (λ x. (map (λ ns. ns.items) x.0.items, x.1.now))) (sym c.in-Some-4.is) ∙ c.in_ok-range_lengths.ensures
    ∙ (λ i. range_lengths_at (blocks i) (c.nfields.ensures i) c.in-Some-3.rest.now))

use Rattle.std.proofs.Common.{Some, sym, ap, ◌∙◌}
use Rattle.std.specs.Prelude.{option_map}
use Rattle.vx_dtype.specs.TypeViews.{type_view}
use Rattle.vx_zones.specs.LeafTypes.{plain_from}
use Rattle.vx_laws_file.specs.HeaderReading.{statistic_of}
use Rattle.vx_file_bytes.proofs.HeaderSteps.{no_path, no_kind, no_leaf, no_scalars, statistic_whole}
use Rattle.vx_file_bytes.proofs.statistics_reading.statistic_front.Goals as goal

pub returns-in_default : goal.returns-in_default
returns-in_default c = no_path (plain_from (type_view c.args.row.now)) c.args.lengths.now c.args.bytes.now (ap (option_map (λ x. (x.0, x.1.now))) (sym c.in_default.is) ∙ c.in_ok-path.ensures)

pub returns-in_default-stat_front : goal.returns-in_default-stat_front
returns-in_default-stat_front c =
    no_kind (plain_from (type_view c.args.row.now)) c.args.lengths.now c.args.bytes.now c.in-Some.path c.in-Some.rest.now
    (ap (option_map (λ x. (x.0, x.1.now))) (sym c.in-Some.is) ∙ c.in_ok-path.ensures) c.in_default-stat_front.ensures

pub returns-in_default-2 : goal.returns-in_default-2
returns-in_default-2 c =
    no_leaf (plain_from (type_view c.args.row.now)) c.args.lengths.now c.args.bytes.now c.in-Some.path c.in-Some-stat_front.stat c.in-Some-stat_front.rest.now
    (record { between = c.in-Some.rest.now; path = ap (option_map (λ x. (x.0, x.1.now))) (sym c.in-Some.is) ∙ c.in_ok-path.ensures; kind = c.in-Some-stat_front.ensures })
    (ap (option_map type_view) (sym c.in_default-2.is) ∙ c.in_ok-dtype.ensures)

pub returns-in_default-3 : goal.returns-in_default-3
returns-in_default-3 c =
    no_scalars (plain_from (type_view c.args.row.now)) c.args.lengths.now c.args.bytes.now c.in-Some.path c.in-Some-stat_front.stat c.in-Some-stat_front.rest.now (type_view c.in-Some-2.dtype)
    (record { between = c.in-Some.rest.now; path = ap (option_map (λ x. (x.0, x.1.now))) (sym c.in-Some.is) ∙ c.in_ok-path.ensures; kind = c.in-Some-stat_front.ensures })
    (ap (option_map type_view) (sym c.in-Some-2.is) ∙ c.in_ok-dtype.ensures)
    (ap (option_map (λ x. (x.0.items, x.1.now))) (sym c.in_default-3.is) ∙ c.in_ok-values.ensures)

pub returns : goal.returns
returns c =
    let path = c.in-Some.path in
    let stat = c.in-Some-stat_front.stat in
    let vs = c.in-Some-3.values.items in
    ap (λ made. Some (statistic_of path stat made, c.in-Some-3.rest.now)) c.new-values.ensures
    ∙ statistic_whole (plain_from (type_view c.args.row.now)) c.args.lengths.now c.args.bytes.now path stat c.in-Some-stat_front.rest.now (type_view c.in-Some-2.dtype) vs c.in-Some-3.rest.now
    (record { between = c.in-Some.rest.now; path = ap (option_map (λ x. (x.0, x.1.now))) (sym c.in-Some.is) ∙ c.in_ok-path.ensures; kind = c.in-Some-stat_front.ensures })
    (ap (option_map type_view) (sym c.in-Some-2.is) ∙ c.in_ok-dtype.ensures)
    (ap (option_map (λ x. (x.0.items, x.1.now))) (sym c.in-Some-3.is) ∙ c.in_ok-values.ensures)

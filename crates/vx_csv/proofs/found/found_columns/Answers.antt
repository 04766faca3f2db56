use Rattle.std.proofs.Common.{ap, length, map, arith, ◌∙◌}
use Rattle.std.proofs.lemmas.List.{length-map}
use Rattle.csv.specs.Records.{fields_of}
use Rattle.vx_dtype.specs.TypeViews.{type_view}
use Rattle.vx_csv.proofs.Typed.{found-count}
use Rattle.vx_csv.proofs.found.found_columns.Goals as goal

pub new-requires-2 : goal.new-requires-2
new-requires-2 c =
    let count = ap length c.in_ok-types.ensures ∙ found-count c.args.null.now 0 c.as_slice.result.now (map fields_of c.args.rows.now) in
    let seen = length-map c.in_ok-types.types.items type_view in
    let same = ap length c.as_slice.ensures.value in
    let own = ap length c.in_ok-new.ensures in
    omega (arith, count, seen, same, own)

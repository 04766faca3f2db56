use Rattle.std.proofs.Common.{◌∙◌, ◌+◌, ◌<◌, ap, [], ◌∷◌, ◌++◌, map, length, drop, arith}
use Rattle.std.proofs.lemmas.List.{map-append}
use Rattle.csv.specs.Records.{fields_of}
use Rattle.vx_dtype.specs.Types.{Ty}
use Rattle.vx_dtype.specs.TypeViews.{type_view}
use Rattle.vx_laws_csv.specs.Cells.{cell_at}
use Rattle.vx_laws_csv.specs.FoundTypes.{found_type, found_types}
use Rattle.vx_csv.proofs.Steps.{one-more, nothing-left}
use Rattle.vx_csv.proofs.Typed.{found-step, found-end}
use Rattle.vx_csv.proofs.found.found_types.Goals as goal

pub loop-i-preserved : goal.loop-i-preserved
loop-i-preserved c =
    let null = c.args.null.now in
    let names = c.args.names.now in
    let rows = map fields_of c.args.rows.now in
    let i = c.loop-i.i in
    let within : i < length names = omega (arith, c.loop-i-test.true) in
    let old = c.loop-i.types.items in
    let t = found_type null (map (cell_at i) rows) in
    let pushed = ap (map type_view) c.in_ok-push.ensures.items ∙ map-append type_view old (c.found_type.result ∷ []) ∙ ap (λ (u : Ty). map type_view old ++ u ∷ []) c.found_type.ensures in
    one-more (found_types null 0 names rows) (map type_view old) (map type_view c.push.new.self.items) (found_types null (i + 1) (drop (i + 1) names) rows)
    (found_types null i (drop i names) rows) t c.loop-i.invariant (found-step null i names rows within) pushed

pub returns : goal.returns
returns c =
    let null = c.args.null.now in
    let names = c.args.names.now in
    let rows = map fields_of c.args.rows.now in
    let i = c.loop-i.i in
    nothing-left (found_types null 0 names rows) (map type_view c.loop-i.types.items) (found_types null i (drop i names) rows) c.loop-i.invariant (found-end null i names rows (omega (arith, c.loop-i-test.false)))

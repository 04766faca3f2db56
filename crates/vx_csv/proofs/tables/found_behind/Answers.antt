use Rattle.std.proofs.Common.{◌∙◌, ap, map, arith}
use Rattle.std.specs.List.{list_all}
use Rattle.std.proofs.lemmas.List.{length-map}
use Rattle.csv.specs.Records.{fields_of}
use Rattle.vx_dtype.specs.Types.{Fields}
use Rattle.vx_dtype.specs.TypeRules.{distinct_names, field_names, is_plain}
use Rattle.vx_dtype.specs.StructTypes.{field_types}
use Rattle.vx_laws_csv.specs.CsvTables.{rows_taken}
use Rattle.vx_csv.proofs.Typed.{are-found, few}
use Rattle.vx_csv.proofs.tables.found_behind.Goals as goal

pub table_with-requires-clause-count : goal.table_with-requires-clause-count
table_with-requires-clause-count c =
    let within = few c.args.most (map fields_of c.args.rows.now) c.in_default.ensures in
    let seen = length-map c.args.rows.now fields_of in
    omega (arith, within, seen, c.ranges.most)

pub table_with-requires-clause-names : goal.table_with-requires-clause-names
table_with-requires-clause-names c =
    let found = are-found c.args.null.now c.args.names.items (map fields_of c.args.rows.now) in
    ap (λ (fs : Fields). distinct_names (field_names fs)) c.in_ok-fields.ensures ∙ ap distinct_names found.are_named ∙ c.requires.names

pub table_with-requires-clause-plain : goal.table_with-requires-clause-plain
table_with-requires-clause-plain c =
    let found = are-found c.args.null.now c.args.names.items (map fields_of c.args.rows.now) in
    ap (λ (fs : Fields). list_all is_plain (field_types fs)) c.in_ok-fields.ensures ∙ found.are_plain

pub table_with-requires-clause-taken : goal.table_with-requires-clause-taken
table_with-requires-clause-taken c =
    let rows = map fields_of c.args.rows.now in
    let found = are-found c.args.null.now c.args.names.items rows in
    ap (λ (fs : Fields). rows_taken c.args.null.now (field_types fs) rows) c.in_ok-fields.ensures ∙ found.are_taken

use Rattle.std.proofs.Common.{◌≡◌, ℕ, Some, List, IsSome, length, get_or, option_map, sym, ap, ◌∙◌, subst, arith}
use Rattle.std.specs.List.{slice_get, position}
use Rattle.std.specs.Str.{bytes_eq}
use Rattle.vx_zones.specs.Zoning.{broken_rule}
use Rattle.std.proofs.lemmas.Option.{slice_get-get_or}
use Rattle.vx_dtype.specs.Types.{Fields}
use Rattle.vx_dtype.specs.TypeRules.{field_names}
use Rattle.vx_dtype.specs.StructTypes.{field_types}
use Rattle.vx_dtype.specs.TypeViews.{type_view}
use Rattle.vx_column.specs.Columns.{column}
use Rattle.vx_semantics.specs.Tables.{Zones}
use Rattle.vx_laws_file.specs.HeldTables.{range_values}
use Rattle.vx_file_open.proofs.ColumnLemmas.{position_there, type_there, IsNamedAt, no_twice, column_in, range_read, never_short}
use Rattle.vx_file_open.proofs.columns.read_column.Goals as goal

pub unwrap-column-requires : goal.unwrap-column-requires
unwrap-column-requires g c =
    let names = c.names.ensures ∙ ap field_names (c.columns_of-fields.ensures.columns ∙ ap (λ (z : Zones). z.columns) c.zones.ensures) in
    subst IsSome (ap (position (bytes_eq c.args.name.now)) (sym names) ∙ sym c.position.ensures) (position_there c.args.name.now (field_names c.args.layout.now.zones.columns) c.requires.column)

pub unwrap-dtype-requires : goal.unwrap-dtype-requires
unwrap-dtype-requires g c =
    let columns = c.columns_of-fields.ensures.columns ∙ ap (λ (z : Zones). z.columns) c.zones.ensures in
    let at : position (bytes_eq c.args.name.now) (field_names c.args.layout.now.zones.columns) ≡ Some c.unwrap-column.result =
    ap (position (bytes_eq c.args.name.now)) (sym (c.names.ensures ∙ ap field_names columns)) ∙ sym c.position.ensures ∙ c.unwrap-column.ensures in
    type_there (λ dtype. type_view dtype.now) c.args.name.now c.args.layout.now.zones.columns c.unwrap-column.result c.field_by_index.result at
    (c.field_by_index.ensures ∙ ap (λ (fs : Fields). slice_get (field_types fs) c.unwrap-column.result) columns)

pub returns-then-len-count-clause-range : goal.returns-then-len-count-clause-range
returns-then-len-count-clause-range g c =
    let told = g.R.Ranged.bytes c.args.source.now in
    let at : position (bytes_eq c.args.name.now) (field_names c.args.layout.now.zones.columns) ≡ Some c.unwrap-column.result =
    ap (position (bytes_eq c.args.name.now)) (sym (c.names.ensures ∙ ap field_names (c.columns_of-fields.ensures.columns ∙ ap (λ (z : Zones). z.columns) c.zones.ensures))) ∙ sym c.position.ensures ∙ c.unwrap-column.ensures in
    let typed : slice_get (field_types c.args.layout.now.zones.columns) c.unwrap-column.result ≡ Some (type_view c.unwrap-dtype.result.now) =
    ap (λ (fs : Fields). slice_get (field_types fs) c.unwrap-column.result) (sym (c.columns_of-fields.ensures.columns ∙ ap (λ (z : Zones). z.columns) c.zones.ensures)) ∙ sym c.field_by_index.ensures ∙ ap (option_map (λ dtype. type_view dtype.now)) c.unwrap-dtype.ensures in
    let lengths : c.lengths.result.now ≡ c.args.layout.now.zones.lengths = c.lengths.ensures.lengths ∙ ap (λ (z : Zones). z.lengths) c.zones-2.ensures in
    let rows = get_or c.lengths.result.now c.args.block 0 in
    let number : slice_get c.args.layout.now.zones.lengths c.args.block ≡ Some rows =
    ap (λ (ns : List ℕ). slice_get ns c.args.block) (sym lengths) ∙ slice_get-get_or c.lengths.result.now c.args.block 0 (omega (arith, c.requires.block, ap length lengths)) in
    let named : IsNamedAt c.args.name.now c.args.layout.now.zones.columns c.unwrap-column.result (type_view c.unwrap-dtype.result.now) = record { at = at; ty = typed } in
    never_short told c.args.layout.now c.args.block c.args.name.now c.unwrap-column.result (type_view c.unwrap-dtype.result.now) rows c.range-place.result.0 c.range-place.result.1 c.in_ok-range.range.items
    c.requires.told named number c.range-place.ensures.place c.range-place.ensures.count c.in_ok-range.ensures.piece (omega (arith, c.if-len-count.true, c.len.ensures, c.in_ok-range.range.ok))

pub read_range-requires : goal.read_range-requires
read_range-requires g c =
    let told = g.R.Ranged.bytes c.args.source.now in
    let at : position (bytes_eq c.args.name.now) (field_names c.args.layout.now.zones.columns) ≡ Some c.unwrap-column.result =
    ap (position (bytes_eq c.args.name.now)) (sym (c.names.ensures ∙ ap field_names (c.columns_of-fields.ensures.columns ∙ ap (λ (z : Zones). z.columns) c.zones.ensures))) ∙ sym c.position.ensures ∙ c.unwrap-column.ensures in
    let typed : slice_get (field_types c.args.layout.now.zones.columns) c.unwrap-column.result ≡ Some (type_view c.unwrap-dtype.result.now) =
    ap (λ (fs : Fields). slice_get (field_types fs) c.unwrap-column.result) (sym (c.columns_of-fields.ensures.columns ∙ ap (λ (z : Zones). z.columns) c.zones.ensures)) ∙ sym c.field_by_index.ensures ∙ ap (option_map (λ dtype. type_view dtype.now)) c.unwrap-dtype.ensures in
    let rules = ap broken_rule (sym c.zones.ensures) ∙ c.columns_of-fields.ensures.rules in
    no_twice c.args.layout.now.zones c.unwrap-column.result (type_view c.unwrap-dtype.result.now) rules typed

pub returns-clause-column : goal.returns-clause-column
returns-clause-column g c =
    let told = g.R.Ranged.bytes c.args.source.now in
    let at : position (bytes_eq c.args.name.now) (field_names c.args.layout.now.zones.columns) ≡ Some c.unwrap-column.result =
    ap (position (bytes_eq c.args.name.now)) (sym (c.names.ensures ∙ ap field_names (c.columns_of-fields.ensures.columns ∙ ap (λ (z : Zones). z.columns) c.zones.ensures))) ∙ sym c.position.ensures ∙ c.unwrap-column.ensures in
    let typed : slice_get (field_types c.args.layout.now.zones.columns) c.unwrap-column.result ≡ Some (type_view c.unwrap-dtype.result.now) =
    ap (λ (fs : Fields). slice_get (field_types fs) c.unwrap-column.result) (sym (c.columns_of-fields.ensures.columns ∙ ap (λ (z : Zones). z.columns) c.zones.ensures)) ∙ sym c.field_by_index.ensures ∙ ap (option_map (λ dtype. type_view dtype.now)) c.unwrap-dtype.ensures in
    let lengths : c.lengths.result.now ≡ c.args.layout.now.zones.lengths = c.lengths.ensures.lengths ∙ ap (λ (z : Zones). z.lengths) c.zones-2.ensures in
    let rows = get_or c.lengths.result.now c.args.block 0 in
    let number : slice_get c.args.layout.now.zones.lengths c.args.block ≡ Some rows =
    ap (λ (ns : List ℕ). slice_get ns c.args.block) (sym lengths) ∙ slice_get-get_or c.lengths.result.now c.args.block 0 (omega (arith, c.requires.block, ap length lengths)) in
    let named : IsNamedAt c.args.name.now c.args.layout.now.zones.columns c.unwrap-column.result (type_view c.unwrap-dtype.result.now) = record { at = at; ty = typed } in
    column_in c.args.layout.now.zones c.args.block c.args.name.now c.unwrap-column.result (type_view c.unwrap-dtype.result.now) rows c.as_slice.result.now c.in_ok-read_range.field-0 named number c.in_ok-read_range.ensures

pub returns-clause-range : goal.returns-clause-range
returns-clause-range g c =
    let told = g.R.Ranged.bytes c.args.source.now in
    let at : position (bytes_eq c.args.name.now) (field_names c.args.layout.now.zones.columns) ≡ Some c.unwrap-column.result =
    ap (position (bytes_eq c.args.name.now)) (sym (c.names.ensures ∙ ap field_names (c.columns_of-fields.ensures.columns ∙ ap (λ (z : Zones). z.columns) c.zones.ensures))) ∙ sym c.position.ensures ∙ c.unwrap-column.ensures in
    let typed : slice_get (field_types c.args.layout.now.zones.columns) c.unwrap-column.result ≡ Some (type_view c.unwrap-dtype.result.now) =
    ap (λ (fs : Fields). slice_get (field_types fs) c.unwrap-column.result) (sym (c.columns_of-fields.ensures.columns ∙ ap (λ (z : Zones). z.columns) c.zones.ensures)) ∙ sym c.field_by_index.ensures ∙ ap (option_map (λ dtype. type_view dtype.now)) c.unwrap-dtype.ensures in
    let lengths : c.lengths.result.now ≡ c.args.layout.now.zones.lengths = c.lengths.ensures.lengths ∙ ap (λ (z : Zones). z.lengths) c.zones-2.ensures in
    let rows = get_or c.lengths.result.now c.args.block 0 in
    let number : slice_get c.args.layout.now.zones.lengths c.args.block ≡ Some rows =
    ap (λ (ns : List ℕ). slice_get ns c.args.block) (sym lengths) ∙ slice_get-get_or c.lengths.result.now c.args.block 0 (omega (arith, c.requires.block, ap length lengths)) in
    let named : IsNamedAt c.args.name.now c.args.layout.now.zones.columns c.unwrap-column.result (type_view c.unwrap-dtype.result.now) = record { at = at; ty = typed } in
    let found = c.in_ok-read_range.ensures ∙ ap (λ xs. option_map (column (type_view c.unwrap-dtype.result.now)) (range_values (type_view c.unwrap-dtype.result.now) rows xs)) c.as_slice.ensures.value in
    range_read told c.args.layout.now c.args.block c.args.name.now c.unwrap-column.result (type_view c.unwrap-dtype.result.now) rows c.range-place.result.0 c.range-place.result.1 c.in_ok-range.range.items c.in_ok-read_range.field-0
    c.requires.told named number c.range-place.ensures.place c.range-place.ensures.count c.in_ok-range.ensures.piece found

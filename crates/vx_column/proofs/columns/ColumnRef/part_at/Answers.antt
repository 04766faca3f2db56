use Rattle.std.proofs.Common.{rules, ◌≡◌, ◌<◌, true, ap, sym, ◌∙◌, subst, map, length, get_or, arith, Some, Ok}
use Rattle.std.proofs.lemmas.Option.{same_Some}
use Rattle.std.specs.Str.{bytes_eq}
use Rattle.std.specs.List.{position}
use Rattle.vx_dtype.specs.Types.{struct_ty}
use Rattle.vx_dtype.specs.TypeRules.{no_name_twice, field_type, field_names, fields_of, nullability_of, widened}
use Rattle.vx_dtype.specs.TypeViews.{type_view}
use Rattle.vx_dtype.specs.Structs.{field_of}
use Rattle.vx_column.specs.Columns.{column}
use Rattle.vx_column.specs.Answers.{type_at_place}
use Rattle.vx_column.specs.Cells.{cell_rows, structs_of, AreFieldsOf, ArePartsOf}
use Rattle.vx_column.proofs.CellLemmas.{fields_number}
use Rattle.vx_column.proofs.ColumnFields.{field_type_here, field_column_here}
use Rattle.vx_column.proofs.FieldLemmas.{field_typed, names_at, names_of_struct, names_widened, place_among, place_typed, position_within, type_placed}
use Rattle.vx_column.proofs.columns.ColumnRef.part_at.Goals as goal

pub bounds-dtypes-place : goal.bounds-dtypes-place
bounds-dtypes-place c =
    let ty : c.args.self.now.ty ≡ struct_ty c.in-Struct.fields c.in-Struct.nullability = sym c.dtype.ensures.shown ∙ ap type_view c.in-Struct.is in
    let place : position (bytes_eq c.args.name.now) (field_names c.in-Struct.fields) ≡ Some c.args.place = ap (λ t. position (bytes_eq c.args.name.now) (field_names (fields_of t))) (sym ty) ∙ c.requires in
    place_among type_view c.args.name.now c.in-Struct.fields c.dtypes.result.now c.args.place place c.dtypes.ensures

pub offset_bounds-dtypes-place : goal.offset_bounds-dtypes-place
offset_bounds-dtypes-place c =
    let ty : c.args.self.now.ty ≡ struct_ty c.in-Struct.fields c.in-Struct.nullability = sym c.dtype.ensures.shown ∙ ap type_view c.in-Struct.is in
    let place : position (bytes_eq c.args.name.now) (field_names c.in-Struct.fields) ≡ Some c.args.place = ap (λ t. position (bytes_eq c.args.name.now) (field_names (fields_of t))) (sym ty) ∙ c.requires in
    let within = place_among type_view c.args.name.now c.in-Struct.fields c.dtypes.result.now c.args.place place c.dtypes.ensures in
    search (rules, within)

pub map_column-requires-clause-made : goal.map_column-requires-clause-made
map_column-requires-clause-made c =
    let ty : c.args.self.now.ty ≡ struct_ty c.in-Struct.fields c.in-Struct.nullability = sym c.dtype.ensures.shown ∙ ap type_view c.in-Struct.is in
    let place : position (bytes_eq c.args.name.now) (field_names c.in-Struct.fields) ≡ Some c.args.place = ap (λ t. position (bytes_eq c.args.name.now) (field_names (fields_of t))) (sym ty) ∙ c.requires in
    let there = type_placed type_view c.args.name.now c.in-Struct.fields c.dtypes.result.now c.args.place c.index-dtypes-place.result place c.dtypes.ensures c.index-dtypes-place.is in
    let same : type_view c.index-dtypes-place.result ≡ type_at_place c.in-Struct.fields c.args.place =
    same_Some _ _ (sym there ∙ place_typed c.in-Struct.fields c.args.place (position_within c.args.name.now c.in-Struct.fields c.args.place place)) in
    search (rules, same)

pub map_column-requires-clause-names : goal.map_column-requires-clause-names
map_column-requires-clause-names c =
    let ty : c.args.self.now.ty ≡ struct_ty c.in-Struct.fields c.in-Struct.nullability = sym c.dtype.ensures.shown ∙ ap type_view c.in-Struct.is in
    let names : no_name_twice (struct_ty c.in-Struct.fields c.in-Struct.nullability) ≡ true = ap no_name_twice (sym ty) ∙ c.dtype.ensures.names in
    let below = names_of_struct c.in-Struct.fields c.in-Struct.nullability names in
    let place : position (bytes_eq c.args.name.now) (field_names c.in-Struct.fields) ≡ Some c.args.place = ap (λ t. position (bytes_eq c.args.name.now) (field_names (fields_of t))) (sym ty) ∙ c.requires in
    let there = type_placed type_view c.args.name.now c.in-Struct.fields c.dtypes.result.now c.args.place c.index-dtypes-place.result place c.dtypes.ensures c.index-dtypes-place.is in
    let here = names_at c.in-Struct.fields c.args.place _ below there in
    ap no_name_twice c.in_ok-dtype.ensures ∙ names_widened _ _ here

pub bounds-columns-place : goal.bounds-columns-place
bounds-columns-place c =
    let ty : c.args.self.now.ty ≡ struct_ty c.in-Struct.fields c.in-Struct.nullability = sym c.dtype.ensures.shown ∙ ap type_view c.in-Struct.is in
    let place : position (bytes_eq c.args.name.now) (field_names c.in-Struct.fields) ≡ Some c.args.place = ap (λ t. position (bytes_eq c.args.name.now) (field_names (fields_of t))) (sym ty) ∙ c.requires in
    let parts : AreFieldsOf c.args.self.now.ty c.in-Columns.columns.value.items c.in-Columns.len = subst (ArePartsOf c.args.self.now.ty) c.in-Columns.is c.cells.ensures.parts in
    let number : length (field_names c.in-Struct.fields) ≡ length c.in-Columns.columns.value.items = ap (λ t. length (field_names (fields_of t))) (sym ty) ∙ fields_number _ _ _ parts in
    omega (arith, position_within c.args.name.now c.in-Struct.fields c.args.place place, number, ap length c.columns_in-columns.ensures)

pub offset_bounds-columns-place : goal.offset_bounds-columns-place
offset_bounds-columns-place c =
    let ty : c.args.self.now.ty ≡ struct_ty c.in-Struct.fields c.in-Struct.nullability = sym c.dtype.ensures.shown ∙ ap type_view c.in-Struct.is in
    let place : position (bytes_eq c.args.name.now) (field_names c.in-Struct.fields) ≡ Some c.args.place = ap (λ t. position (bytes_eq c.args.name.now) (field_names (fields_of t))) (sym ty) ∙ c.requires in
    let parts : AreFieldsOf c.args.self.now.ty c.in-Columns.columns.value.items c.in-Columns.len = subst (ArePartsOf c.args.self.now.ty) c.in-Columns.is c.cells.ensures.parts in
    let number : length (field_names c.in-Struct.fields) ≡ length c.in-Columns.columns.value.items = ap (λ t. length (field_names (fields_of t))) (sym ty) ∙ fields_number _ _ _ parts in
    let within : c.args.place < length c.columns_in-columns.result.now = omega (arith, position_within c.args.name.now c.in-Struct.fields c.args.place place, number, ap length c.columns_in-columns.ensures) in
    search (rules, within)

pub returns-in-Columns : goal.returns-in-Columns
returns-in-Columns c =
    let parts : AreFieldsOf c.args.self.now.ty c.in-Columns.columns.value.items c.in-Columns.len = subst (ArePartsOf c.args.self.now.ty) c.in-Columns.is c.cells.ensures.parts in
    let rows : structs_of (field_names (fields_of c.args.self.now.ty)) c.in-Columns.columns.value.items c.in-Columns.len ≡ c.args.self.now.rows = ap (cell_rows c.args.self.now.ty) (sym c.in-Columns.is) ∙ c.cells.ensures.rows in
    let read = c.index-columns-place.is ∙ ap (λ cs. get_or cs c.args.place c.index-columns-place.result) c.columns_in-columns.ensures in
    let found = field_type_here c.args.name.now c.args.self.now.ty c.in-Columns.columns.value.items c.in-Columns.len c.args.place c.index-columns-place.result parts c.requires read in
    let same = field_column_here c.args.name.now c.args.self.now.ty c.in-Columns.columns.value.items c.in-Columns.len c.args.place c.index-columns-place.result parts c.requires read in
    let made : c.index-columns-place.result ≡ column (widened c.index-columns-place.result.ty (nullability_of c.args.self.now.ty)) (map (field_of c.args.name.now) c.args.self.now.rows) = same ∙ ap (λ vs. column (widened c.index-columns-place.result.ty (nullability_of c.args.self.now.ty)) (map (field_of c.args.name.now) vs)) rows in
    rw found (ap (λ d. Ok d) (c.in_ok-clone.ensures.cases ∙ made))

pub returns : goal.returns
returns c =
    let ty : c.args.self.now.ty ≡ struct_ty c.in-Struct.fields c.in-Struct.nullability = sym c.dtype.ensures.shown ∙ ap type_view c.in-Struct.is in
    let place : position (bytes_eq c.args.name.now) (field_names c.in-Struct.fields) ≡ Some c.args.place = ap (λ t. position (bytes_eq c.args.name.now) (field_names (fields_of t))) (sym ty) ∙ c.requires in
    let type_there = type_placed type_view c.args.name.now c.in-Struct.fields c.dtypes.result.now c.args.place c.index-dtypes-place.result place c.dtypes.ensures c.index-dtypes-place.is in
    let there : field_type c.args.name.now (fields_of c.args.self.now.ty) ≡ Some (type_view c.index-dtypes-place.result) = ap (λ t. field_type c.args.name.now (fields_of t)) ty ∙ field_typed c.args.name.now c.in-Struct.fields c.args.place _ place type_there in
    let made : c.in_ok-map_column.field-0.ty ≡ widened (type_view c.index-dtypes-place.result) (nullability_of c.args.self.now.ty) = c.in_ok-map_column.ensures.dtype ∙ c.in_ok-dtype.ensures ∙ ap (λ t. widened (type_view c.index-dtypes-place.result) (nullability_of t)) (sym ty) in
    let same : c.in_ok-map_column.field-0 ≡ column (widened (type_view c.index-dtypes-place.result) (nullability_of c.args.self.now.ty)) (map (field_of c.args.name.now) c.args.self.now.rows) = λ i. column (made i) (c.in_ok-map_column.ensures.rows i) in
    rw there (ap (λ d. Ok d) same)

use Rattle.std.proofs.Common.{◌≡◌, true, ap, sym, ◌∙◌, subst, Some, Ok}
use Rattle.std.specs.List.{AllZip}
use Rattle.vx_dtype.specs.Types.{struct_ty}
use Rattle.vx_dtype.specs.TypeRules.{no_name_twice, field_names, fields_of}
use Rattle.vx_dtype.specs.StructTypes.{projected}
use Rattle.vx_dtype.specs.TypeViews.{type_view}
use Rattle.vx_column.specs.Columns.{Column}
use Rattle.vx_column.specs.Cells.{cell_rows, structs_of, AreFieldsOf, ArePartsOf, HasAtPlace}
use Rattle.vx_column.proofs.FieldLemmas.{names_of_struct}
use Rattle.vx_column.proofs.ProjectionLemmas.{distinct_projected, names_projected}
use Rattle.vx_column.proofs.ColumnFields.{project_within, project_answer}
use Rattle.vx_column.proofs.columns.ColumnRef.projection_of.Goals as goal

pub columns_at-requires : goal.columns_at-requires
columns_at-requires c =
    let ty : c.args.self.now.ty ≡ struct_ty c.in-Struct.fields c.in-Struct.nullability = sym c.dtype.ensures.shown ∙ ap type_view c.in-Struct.is in
    let parts : AreFieldsOf c.args.self.now.ty c.in-Columns.columns.value.items c.in-Columns.len = subst (ArePartsOf c.args.self.now.ty) c.in-Columns.is c.cells.ensures.parts in
    rw (c.columns_in.ensures, c.as_slice.ensures.value) (project_within c.args.names.now c.args.self.now c.in-Struct.fields c.in-Struct.nullability c.in-Columns.columns.value.items c.in-Columns.len c.in_ok-places.places.items ty parts c.in_ok-places.ensures)

pub of_fields-requires-clause-fields : goal.of_fields-requires-clause-fields
of_fields-requires-clause-fields c =
    let ty : c.args.self.now.ty ≡ struct_ty c.in-Struct.fields c.in-Struct.nullability = sym c.dtype.ensures.shown ∙ ap type_view c.in-Struct.is in
    let parts : AreFieldsOf c.args.self.now.ty c.in-Columns.columns.value.items c.in-Columns.len = subst (ArePartsOf c.args.self.now.ty) c.in-Columns.is c.cells.ensures.parts in
    let rows : structs_of (field_names (fields_of c.args.self.now.ty)) c.in-Columns.columns.value.items c.in-Columns.len ≡ c.args.self.now.rows = ap (cell_rows c.args.self.now.ty) (sym c.in-Columns.is) ∙ c.cells.ensures.rows in
    let taken : AllZip (HasAtPlace c.in-Columns.columns.value.items) c.in_ok-places.places.items c.in_ok-taken.taken.items = rw (c.columns_in.ensures, c.as_slice.ensures.value) at c.in_ok-taken.ensures in
    (project_answer c.args.names.now c.args.self.now c.in-Struct.fields c.in_ok-made.made c.in_ok-clone.field-0 c.in-Struct.nullability c.in-Columns.columns.value.items c.in_ok-taken.taken.items c.in-Columns.len c.in_ok-places.places.items ty parts rows c.in_ok-places.ensures taken c.in_ok-made.ensures.ok c.in_ok-clone.ensures.cases).0

pub of_fields-requires-clause-names : goal.of_fields-requires-clause-names
of_fields-requires-clause-names c =
    let ty : c.args.self.now.ty ≡ struct_ty c.in-Struct.fields c.in-Struct.nullability = sym c.dtype.ensures.shown ∙ ap type_view c.in-Struct.is in
    let names : no_name_twice (struct_ty c.in-Struct.fields c.in-Struct.nullability) ≡ true = ap no_name_twice (sym ty) ∙ c.dtype.ensures.names in
    let below = names_of_struct c.in-Struct.fields c.in-Struct.nullability names in
    let distinct =
    distinct_projected c.args.names.now c.names.result.now c.in-Struct.fields c.in_ok-made.made c.are_distinct.result c.in_ok-made.ensures.ok c.names.ensures c.are_distinct.ensures c.if-not-are_distinct.false in
    ap (λ fs. no_name_twice (struct_ty fs c.in-Struct.nullability)) c.in_ok-clone.ensures.cases ∙ names_projected c.args.names.now c.in-Struct.fields c.in_ok-made.made c.in-Struct.nullability below c.in_ok-made.ensures.ok distinct

pub returns-in-Columns : goal.returns-in-Columns
returns-in-Columns c =
    let ty : c.args.self.now.ty ≡ struct_ty c.in-Struct.fields c.in-Struct.nullability = sym c.dtype.ensures.shown ∙ ap type_view c.in-Struct.is in
    let parts : AreFieldsOf c.args.self.now.ty c.in-Columns.columns.value.items c.in-Columns.len = subst (ArePartsOf c.args.self.now.ty) c.in-Columns.is c.cells.ensures.parts in
    let rows : structs_of (field_names (fields_of c.args.self.now.ty)) c.in-Columns.columns.value.items c.in-Columns.len ≡ c.args.self.now.rows = ap (cell_rows c.args.self.now.ty) (sym c.in-Columns.is) ∙ c.cells.ensures.rows in
    let taken : AllZip (HasAtPlace c.in-Columns.columns.value.items) c.in_ok-places.places.items c.in_ok-taken.taken.items = rw (c.columns_in.ensures, c.as_slice.ensures.value) at c.in_ok-taken.ensures in
    let told = project_answer c.args.names.now c.args.self.now c.in-Struct.fields c.in_ok-made.made c.in_ok-clone.field-0 c.in-Struct.nullability c.in-Columns.columns.value.items c.in_ok-taken.taken.items c.in-Columns.len c.in_ok-places.places.items ty parts rows c.in_ok-places.ensures taken c.in_ok-made.ensures.ok c.in_ok-clone.ensures.cases in
    let found : projected c.args.names.now (fields_of c.args.self.now.ty) ≡ Some c.in_ok-made.made = ap (λ t. projected c.args.names.now (fields_of t)) ty ∙ c.in_ok-made.ensures.ok in
    let distinct =
    distinct_projected c.args.names.now c.names.result.now c.in-Struct.fields c.in_ok-made.made c.are_distinct.result c.in_ok-made.ensures.ok c.names.ensures c.are_distinct.ensures c.if-not-are_distinct.false in
    rw (found, distinct) (ap (λ (d : Column). Ok d) (c.in_ok-of_fields.ensures ∙ told.1))

pub map_column-requires-clause-names : goal.map_column-requires-clause-names
map_column-requires-clause-names c =
    let ty : c.args.self.now.ty ≡ struct_ty c.in-Struct.fields c.in-Struct.nullability = sym c.dtype.ensures.shown ∙ ap type_view c.in-Struct.is in
    let names : no_name_twice (struct_ty c.in-Struct.fields c.in-Struct.nullability) ≡ true = ap no_name_twice (sym ty) ∙ c.dtype.ensures.names in
    let below = names_of_struct c.in-Struct.fields c.in-Struct.nullability names in
    let distinct =
    distinct_projected c.args.names.now c.names.result.now c.in-Struct.fields c.in_ok-made.made c.are_distinct.result c.in_ok-made.ensures.ok c.names.ensures c.are_distinct.ensures c.if-not-are_distinct.false in
    ap (λ fs. no_name_twice (struct_ty fs c.in-Struct.nullability)) c.in_ok-clone.ensures.cases ∙ names_projected c.args.names.now c.in-Struct.fields c.in_ok-made.made c.in-Struct.nullability below c.in_ok-made.ensures.ok distinct

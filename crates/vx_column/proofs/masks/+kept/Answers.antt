use Rattle.std.proofs.Common.{◌≡◌, ◌<◌, ◌≤◌, ap, sym, ◌∙◌, subst, arith, length, map, ◌++◌, ◌∷◌, []}
use Rattle.std.specs.List.{All}
use Rattle.std.proofs.Math.ListN.{replicate}
use Rattle.std.proofs.lemmas.List.{map_more}
use Rattle.vx_dtype.specs.declared.Nullability.TheVariants.{Nullable}
use Rattle.vx_dtype.specs.TypeRules.{field_names, fields_of, with_nullability}
use Rattle.vx_column.specs.TypeSizes.{size_of}
use Rattle.vx_column.specs.Sizes.{size_masked}
use Rattle.vx_dtype.specs.TypeViews.{type_view}
use Rattle.vx_words.specs.Truths.{vals_of, kept_items}
use Rattle.vx_column.specs.Columns.{Column, column, masked, seen, seen_rows, zip_rows}
use Rattle.vx_column.specs.Cells.{cell_rows, structs_of, AreFieldsOf, AreMaskedOf, ArePartsOf, kept_column}
use Rattle.vx_column.specs.ColumnParts.{AreTruthsOf}
use Rattle.vx_column.proofs.StructLemmas.{if_ok_map}
use Rattle.vx_column.proofs.CellLemmas.{deepest, deepest_lt, size_le-deepest, structs_length, fields_have_rows}
use Rattle.vx_column.proofs.KeptLemmas.{kept_constant, kept_values, kept_structure}
use Rattle.vx_column.proofs.TruthLemmas.{true_count_of, kept_truths_of, kept_truths_column, length_vals}
use Rattle.vx_column.proofs.MaskedLemmas.{masked_length, masked_truths}
use Rattle.vx_column.proofs.MaskedParts.{kept_number, kept_masked_column}
use Rattle.vx_numbers.specs.Numbers.{NumberList, number_list}
use Rattle.vx_column.specs.ColumnParts.{AreNumbersOf}
use Rattle.vx_column.specs.PlainValues.{numbers_vals}
use Rattle.vx_column.proofs.NumberLemmas.{kept_numbers_of, kept_numbers_column}
use Rattle.vx_column.proofs.masks.+kept.Goals as goal

pub kept_of-returns-in_ok-clone-in-Constant : goal.kept_of-returns-in_ok-clone-in-Constant
kept_of-returns-in_ok-clone-in-Constant t c =
    let rows : replicate c.in-Constant.len (seen c.args.column.now.ty c.in-Constant.value) ≡ c.args.column.now.rows = ap (cell_rows c.args.column.now.ty) (sym c.in-Constant.is) ∙ c.cells.ensures.rows in
    let type : type_view c.in_ok-dtype.dtype ≡ c.args.column.now.ty = c.in_ok-dtype.ensures.cases ∙ c.dtype.ensures.shown in
    c.of_constant.ensures ∙ kept_constant c.args.column.now (vals_of c.args.keep.now) (type_view c.in_ok-dtype.dtype) c.in-Constant.len c.true_count.result c.in-Constant.value c.in_ok-clone-in-Constant.field-0 type rows c.requires (c.true_count.ensures ∙ true_count_of c.args.keep.now) c.in_ok-clone-in-Constant.ensures.cases

pub kept_of-returns-in_ok-kept-in-Rows : goal.kept_of-returns-in_ok-kept-in-Rows
kept_of-returns-in_ok-kept-in-Rows t c =
    let xs = c.in-Rows.rows.value.items in
    let rows : seen_rows c.args.column.now.ty c.in-Rows.rows.value.items ≡ c.args.column.now.rows = ap (cell_rows c.args.column.now.ty) (sym c.in-Rows.is) ∙ c.cells.ensures.rows in
    let type : type_view c.in_ok-dtype.dtype ≡ c.args.column.now.ty = c.in_ok-dtype.ensures.cases ∙ c.dtype.ensures.shown in
    let kept = rw c.values_in.ensures at c.in_ok-kept-in-Rows.ensures.values in
    if_ok_map _ _ c.column_of.result (λ (x : Column) (h : x ≡ column (type_view c.in_ok-dtype.dtype) (seen_rows (type_view c.in_ok-dtype.dtype) c.in_ok-kept-in-Rows.kept.items)). h ∙ kept_values c.args.column.now (vals_of c.args.keep.now) (type_view c.in_ok-dtype.dtype) (type_view c.dtype-in-Rows.result.now) c.in-Rows.rows.value.items c.in_ok-kept-in-Rows.kept.items type c.dtype-in-Rows.ensures.shown rows kept) c.column_of.ensures

pub kept_of-kept_fields-requires : goal.kept_of-kept_fields-requires
kept_of-kept_fields-requires t c =
    let rows : structs_of (field_names (fields_of c.args.column.now.ty)) c.in-Columns.fields.value.items c.in-Columns.len ≡ c.args.column.now.rows = ap (cell_rows c.args.column.now.ty) (sym c.in-Columns.is) ∙ c.cells.ensures.rows in
    let parts : AreFieldsOf c.args.column.now.ty c.in-Columns.fields.value.items c.in-Columns.len = subst (ArePartsOf c.args.column.now.ty) c.in-Columns.is c.cells.ensures.parts in
    let count : c.in-Columns.len ≡ length (vals_of c.args.keep.now) = structs_length c.args.column.now _ _ _ rows ∙ c.requires in
    let below : deepest c.columns_in.result.now < size_of c.args.column.now.ty = omega (arith, deepest_lt _ _ _ parts, ap deepest c.columns_in.ensures) in
    let lengths = subst (λ n. All (λ (d : Column). length d.rows ≡ n) c.in-Columns.fields.value.items) count (fields_have_rows c.in-Columns.len c.in-Columns.fields.value.items parts.lengths) in
    (omega (arith, below, c.decreases), subst (λ cs. All (λ (d : Column). length d.rows ≡ length (vals_of c.args.keep.now)) cs) (sym c.columns_in.ensures) lengths)

pub kept_of-of_fields-requires-clause-fields : goal.kept_of-of_fields-requires-clause-fields
kept_of-of_fields-requires-clause-fields t c =
    let rows : structs_of (field_names (fields_of c.args.column.now.ty)) c.in-Columns.fields.value.items c.in-Columns.len ≡ c.args.column.now.rows = ap (cell_rows c.args.column.now.ty) (sym c.in-Columns.is) ∙ c.cells.ensures.rows in
    let parts : AreFieldsOf c.args.column.now.ty c.in-Columns.fields.value.items c.in-Columns.len = subst (ArePartsOf c.args.column.now.ty) c.in-Columns.is c.cells.ensures.parts in
    let count : c.in-Columns.len ≡ length (vals_of c.args.keep.now) = structs_length c.args.column.now _ _ _ rows ∙ c.requires in
    let type : type_view c.in_ok-dtype.dtype ≡ c.args.column.now.ty = c.in_ok-dtype.ensures.cases ∙ c.dtype.ensures.shown in
    (kept_structure c.args.column.now (vals_of c.args.keep.now) (type_view c.in_ok-dtype.dtype) c.in-Columns.fields.value.items c.in_ok-kept-in-Columns.kept.items c.in-Columns.len c.true_count-in-Columns.result type parts rows count (c.true_count-in-Columns.ensures ∙ true_count_of c.args.keep.now) (c.in_ok-kept-in-Columns.ensures ∙ ap (map (kept_column (vals_of c.args.keep.now))) c.columns_in.ensures)).0

pub kept_of-returns-in_ok-kept-in-Columns : goal.kept_of-returns-in_ok-kept-in-Columns
kept_of-returns-in_ok-kept-in-Columns t c =
    let rows : structs_of (field_names (fields_of c.args.column.now.ty)) c.in-Columns.fields.value.items c.in-Columns.len ≡ c.args.column.now.rows = ap (cell_rows c.args.column.now.ty) (sym c.in-Columns.is) ∙ c.cells.ensures.rows in
    let parts : AreFieldsOf c.args.column.now.ty c.in-Columns.fields.value.items c.in-Columns.len = subst (ArePartsOf c.args.column.now.ty) c.in-Columns.is c.cells.ensures.parts in
    let count : c.in-Columns.len ≡ length (vals_of c.args.keep.now) = structs_length c.args.column.now _ _ _ rows ∙ c.requires in
    let type : type_view c.in_ok-dtype.dtype ≡ c.args.column.now.ty = c.in_ok-dtype.ensures.cases ∙ c.dtype.ensures.shown in
    let told = kept_structure c.args.column.now (vals_of c.args.keep.now) (type_view c.in_ok-dtype.dtype) c.in-Columns.fields.value.items c.in_ok-kept-in-Columns.kept.items c.in-Columns.len c.true_count-in-Columns.result type parts rows count (c.true_count-in-Columns.ensures ∙ true_count_of c.args.keep.now) (c.in_ok-kept-in-Columns.ensures ∙ ap (map (kept_column (vals_of c.args.keep.now))) c.columns_in.ensures) in
    if_ok_map _ _ c.of_fields.result (λ (x : Column) (h : x ≡ column (type_view c.in_ok-dtype.dtype) (structs_of (field_names (fields_of (type_view c.in_ok-dtype.dtype))) c.in_ok-kept-in-Columns.kept.items c.true_count-in-Columns.result)). h ∙ told.1) c.of_fields.ensures

pub kept_fields-kept_of-requires : goal.kept_fields-kept_of-requires
kept_fields-kept_of-requires t c =
    let i = c.loop-field.field-index in
    let below : size_of c.field-item.result.ty ≤ deepest c.args.fields.now = omega (arith, size_le-deepest c.args.fields.now i c.field-item.result c.loop-field-test.true, ap (λ (d : Column). size_of d.ty) c.field-item.is) in
    let lengths : length c.field-item.result.rows ≡ length (vals_of c.args.keep.now) = subst (λ (f : Column). length f.rows ≡ length (vals_of c.args.keep.now)) (sym c.field-item.is) (c.requires i c.field-item.result c.loop-field-test.true) in
    (omega (arith, below, c.decreases), lengths)

pub kept_fields-loop-field-preserved : goal.kept_fields-loop-field-preserved
kept_fields-loop-field-preserved t c =
    let here = c.in_ok-kept_of.ensures ∙ ap (kept_column (vals_of c.args.keep.now)) c.field-item.is in
    c.in_ok-push.ensures.items ∙ (λ j. c.loop-field.invariant j ++ here j ∷ []) ∙ sym (map_more (kept_column (vals_of c.args.keep.now)) c.args.fields.now c.loop-field.field-index c.field-item.result c.loop-field-test.true)

pub kept_of-of_truths-requires : goal.kept_of-of_truths-requires
kept_of-of_truths-requires t c =
    let parts : AreTruthsOf c.args.column.now.ty c.in-Truths.truths.value = subst (ArePartsOf c.args.column.now.ty) c.in-Truths.is c.cells.ensures.parts in
    let type : type_view c.in_ok-dtype.dtype ≡ c.args.column.now.ty = c.in_ok-dtype.ensures.cases ∙ c.dtype.ensures.shown in
    let kept = c.in_ok-kept-in-Truths.ensures ∙ ap (λ ts. kept_items ts c.args.keep.now) c.truths_in.ensures in
    kept_truths_of c.args.column.now.ty _ c.in-Truths.truths.value c.args.keep.now _ type parts kept

pub kept_of-returns-in_ok-kept-in-Truths : goal.kept_of-returns-in_ok-kept-in-Truths
kept_of-returns-in_ok-kept-in-Truths t c =
    let rows : vals_of c.in-Truths.truths.value ≡ c.args.column.now.rows = ap (cell_rows c.args.column.now.ty) (sym c.in-Truths.is) ∙ c.cells.ensures.rows in
    let type : type_view c.in_ok-dtype.dtype ≡ c.args.column.now.ty = c.in_ok-dtype.ensures.cases ∙ c.dtype.ensures.shown in
    let kept = c.in_ok-kept-in-Truths.ensures ∙ ap (λ ts. kept_items ts c.args.keep.now) c.truths_in.ensures in
    if_ok_map _ _ c.of_truths.result (λ (x : Column) (h : x ≡ column (type_view c.in_ok-dtype.dtype) (vals_of c.in_ok-kept-in-Truths.kept)). h ∙ kept_truths_column c.args.column.now (type_view c.in_ok-dtype.dtype) c.in-Truths.truths.value c.args.keep.now c.in_ok-kept-in-Truths.kept type rows kept) c.of_truths.ensures

pub kept_of-of_numbers-requires : goal.kept_of-of_numbers-requires
kept_of-of_numbers-requires t c =
    let parts : AreNumbersOf c.args.column.now.ty c.in-Numbers.numbers.value = subst (ArePartsOf c.args.column.now.ty) c.in-Numbers.is c.cells.ensures.parts in
    let type : type_view c.in_ok-dtype.dtype ≡ c.args.column.now.ty = c.in_ok-dtype.ensures.cases ∙ c.dtype.ensures.shown in
    let kept = c.in_ok-kept-in-Numbers.ensures ∙ ap (λ (ns : NumberList). number_list ns.ptype (kept_items ns.numbers c.args.keep.now)) c.numbers_in.ensures in
    kept_numbers_of c.args.column.now.ty _ c.in-Numbers.numbers.value _ c.args.keep.now type parts kept

pub kept_of-returns-in_ok-kept-in-Numbers : goal.kept_of-returns-in_ok-kept-in-Numbers
kept_of-returns-in_ok-kept-in-Numbers t c =
    let rows : numbers_vals c.in-Numbers.numbers.value ≡ c.args.column.now.rows = ap (cell_rows c.args.column.now.ty) (sym c.in-Numbers.is) ∙ c.cells.ensures.rows in
    let type : type_view c.in_ok-dtype.dtype ≡ c.args.column.now.ty = c.in_ok-dtype.ensures.cases ∙ c.dtype.ensures.shown in
    let kept = c.in_ok-kept-in-Numbers.ensures ∙ ap (λ (ns : NumberList). number_list ns.ptype (kept_items ns.numbers c.args.keep.now)) c.numbers_in.ensures in
    if_ok_map _ _ c.of_numbers.result (λ (x : Column) (h : x ≡ column (type_view c.in_ok-dtype.dtype) (numbers_vals c.in_ok-kept-in-Numbers.kept)). h ∙ kept_numbers_column c.args.column.now (type_view c.in_ok-dtype.dtype) c.in-Numbers.numbers.value c.in_ok-kept-in-Numbers.kept c.args.keep.now type rows kept) c.of_numbers.ensures

pub kept_of-kept_of-requires : goal.kept_of-kept_of-requires
kept_of-kept_of-requires t c =
    let rows : zip_rows masked c.in-Masked.column.value.rows (vals_of c.in-Masked.nulls.value) ≡ c.args.column.now.rows = ap (cell_rows c.args.column.now.ty) (sym c.in-Masked.is) ∙ c.cells.ensures.rows in
    let parts : AreMaskedOf c.args.column.now.ty c.in-Masked.column.value c.in-Masked.nulls.value = subst (ArePartsOf c.args.column.now.ty) c.in-Masked.is c.cells.ensures.parts in
    let lengths = ap (λ (d : Column). length d.rows) c.column_in.ensures ∙ masked_length c.args.column.now c.in-Masked.column.value c.in-Masked.nulls.value parts rows ∙ c.requires in
    (omega (arith, size_masked c.args.column.now.ty c.in-Masked.column.value c.in-Masked.nulls.value parts, ap (λ (d : Column). size_of d.ty) c.column_in.ensures, c.decreases), lengths)

pub kept_of-filter-requires-in-Masked : goal.kept_of-filter-requires-in-Masked
kept_of-filter-requires-in-Masked t c =
    let rows : zip_rows masked c.in-Masked.column.value.rows (vals_of c.in-Masked.nulls.value) ≡ c.args.column.now.rows = ap (cell_rows c.args.column.now.ty) (sym c.in-Masked.is) ∙ c.cells.ensures.rows in
    let parts : AreMaskedOf c.args.column.now.ty c.in-Masked.column.value c.in-Masked.nulls.value = subst (ArePartsOf c.args.column.now.ty) c.in-Masked.is c.cells.ensures.parts in
    let own = masked_truths c.args.column.now c.in-Masked.column.value c.in-Masked.nulls.value parts rows in
    omega (arith, own, c.requires, length_vals c.args.keep.now, ap length c.truths_in-in-Masked.ensures)

pub kept_of-of_masked-requires-clause-lengths : goal.kept_of-of_masked-requires-clause-lengths
kept_of-of_masked-requires-clause-lengths t c =
    let rows : zip_rows masked c.in-Masked.column.value.rows (vals_of c.in-Masked.nulls.value) ≡ c.args.column.now.rows = ap (cell_rows c.args.column.now.ty) (sym c.in-Masked.is) ∙ c.cells.ensures.rows in
    let parts : AreMaskedOf c.args.column.now.ty c.in-Masked.column.value c.in-Masked.nulls.value = subst (ArePartsOf c.args.column.now.ty) c.in-Masked.is c.cells.ensures.parts in
    let kept : c.in_ok-kept-in-Masked.kept ≡ kept_column (vals_of c.args.keep.now) c.in-Masked.column.value = c.in_ok-kept-in-Masked.ensures ∙ ap (kept_column (vals_of c.args.keep.now)) c.column_in.ensures in
    let nulls : c.in_ok-new-in-Masked.field-0.value ≡ kept_items c.in-Masked.nulls.value c.args.keep.now = c.in_ok-new-in-Masked.ensures.ok ∙ c.in_ok-nulls-in-Masked.ensures ∙ ap (λ ts. kept_items ts c.args.keep.now) c.truths_in-in-Masked.ensures in
    let lengths = masked_length c.args.column.now c.in-Masked.column.value c.in-Masked.nulls.value parts rows ∙ c.requires in
    ap length nulls ∙ kept_number c.in-Masked.column.value.rows c.in-Masked.nulls.value c.args.keep.now parts.lengths lengths ∙ ap (λ (d : Column). length d.rows) (sym kept) ∙ ap (λ (d : Column). length d.rows) (sym c.kept.view_is)

pub kept_of-returns-in_ok-new-in-Masked : goal.kept_of-returns-in_ok-new-in-Masked
kept_of-returns-in_ok-new-in-Masked t c =
    let rows : zip_rows masked c.in-Masked.column.value.rows (vals_of c.in-Masked.nulls.value) ≡ c.args.column.now.rows = ap (cell_rows c.args.column.now.ty) (sym c.in-Masked.is) ∙ c.cells.ensures.rows in
    let parts : AreMaskedOf c.args.column.now.ty c.in-Masked.column.value c.in-Masked.nulls.value = subst (ArePartsOf c.args.column.now.ty) c.in-Masked.is c.cells.ensures.parts in
    let kept : c.in_ok-kept-in-Masked.kept ≡ kept_column (vals_of c.args.keep.now) c.in-Masked.column.value = c.in_ok-kept-in-Masked.ensures ∙ ap (kept_column (vals_of c.args.keep.now)) c.column_in.ensures in
    let nulls : c.in_ok-new-in-Masked.field-0.value ≡ kept_items c.in-Masked.nulls.value c.args.keep.now = c.in_ok-new-in-Masked.ensures.ok ∙ c.in_ok-nulls-in-Masked.ensures ∙ ap (λ ts. kept_items ts c.args.keep.now) c.truths_in-in-Masked.ensures in
    let told = kept_masked_column c.args.column.now c.in-Masked.column.value c.in-Masked.nulls.value c.args.keep.now _ parts rows nulls in
    let within : column (type_view c.kept.inside.dtype) (cell_rows (type_view c.kept.inside.dtype) c.kept.inside.cells) ≡ kept_column (vals_of c.args.keep.now) c.in-Masked.column.value = c.kept.view_is ∙ kept in
    let here = λ (d : Column). column (with_nullability d.ty Nullable) (zip_rows masked d.rows (vals_of c.in_ok-new-in-Masked.field-0.value)) in
    if_ok_map _ _ c.of_masked.result (λ (x : Column) (h : x ≡ here (column (type_view c.kept.inside.dtype) (cell_rows (type_view c.kept.inside.dtype) c.kept.inside.cells))). h ∙ ap here within ∙ told) c.of_masked.ensures

use Rattle.std.proofs.Common.{None, ◌≡◌, ◌<◌, ap, sym, ◌∙◌, ◌≤◌, get_or, subst, arith, length, map}
use Rattle.std.specs.List.{All, AllZip}
use Rattle.vx_dtype.specs.TypeRules.{field_names, fields_of}
use Rattle.vx_column.specs.TypeSizes.{size_of}
use Rattle.vx_dtype.specs.Values.{raw_struct}
use Rattle.vx_dtype.specs.RawViews.{raw_view, raws_of}
use Rattle.vx_dtype.specs.declared.values.ScalarValue.{ScalarValue}
use Rattle.vx_column.specs.Columns.{Column, seen_rows, masked, zip_rows}
use Rattle.vx_column.specs.StructColumns.{StandsAt}
use Rattle.vx_column.specs.Cells.{cell_rows, structs_of, AreFieldsOf, AreMaskedOf, ArePartsOf}
use Rattle.vx_column.specs.ColumnParts.{AreTruthsOf}
use Rattle.vx_column.proofs.StructLemmas.{all_rows_at, all_zip_more, if_ok_map}
use Rattle.vx_column.proofs.CellLemmas.{deepest, deepest_lt, size_le-deepest, structs_length, values_row, values_fit_at, clone_stands, struct_stands_at}
use Rattle.vx_words.specs.Truths.{vals_of}
use Rattle.vx_column.proofs.TruthLemmas.{truth_stands}
use Rattle.vx_column.specs.ColumnParts.{AreNumbersOf}
use Rattle.vx_column.specs.PlainValues.{numbers_vals}
use Rattle.vx_column.proofs.NumberLemmas.{number_stands}
use Rattle.vx_numbers.specs.Numbers.{NumberList}
use Rattle.vx_column.specs.Sizes.{size_masked}
use Rattle.vx_column.proofs.MaskedLemmas.{masked_truths, masked_length, masked_null, masked_own, masked_nullable, inner_stands}
use Rattle.vx_column.proofs.reading.+made.Goals as goal

pub made_at-returns-in_ok-clone-in-Rows : goal.made_at-returns-in_ok-clone-in-Rows
made_at-returns-in_ok-clone-in-Rows t c =
    let same : c.values_in-values.result.now ≡ c.in-Rows.rows.value.items = c.values_in-values.ensures in
    let rows : seen_rows c.args.column.now.ty c.in-Rows.rows.value.items ≡ c.args.column.now.rows = ap (cell_rows c.args.column.now.ty) (sym c.in-Rows.is) ∙ c.cells.ensures.rows in
    let parts = (subst (ArePartsOf c.args.column.now.ty) c.in-Rows.is c.cells.ensures.parts).fit in
    let read = c.index-values-i.is ∙ ap (λ xs. get_or xs c.args.i c.index-values-i.result) same in
    clone_stands c.args.column.now c.args.i c.index-values-i.result _ (values_fit_at c.args.column.now c.in-Rows.rows.value.items c.args.i _ rows parts c.requires read) (values_row c.args.column.now c.in-Rows.rows.value.items c.args.i _ rows c.requires read) c.in_ok-clone-in-Rows.ensures.cases

pub made_at-row_of-requires : goal.made_at-row_of-requires
made_at-row_of-requires t c =
    let same : c.columns_in.result.now ≡ c.in-Columns.fields.value.items = c.columns_in.ensures in
    let rows : structs_of (field_names (fields_of c.args.column.now.ty)) c.in-Columns.fields.value.items c.in-Columns.len ≡ c.args.column.now.rows = ap (cell_rows c.args.column.now.ty) (sym c.in-Columns.is) ∙ c.cells.ensures.rows in
    let parts : AreFieldsOf c.args.column.now.ty c.in-Columns.fields.value.items c.in-Columns.len = subst (ArePartsOf c.args.column.now.ty) c.in-Columns.is c.cells.ensures.parts in
    let within : c.args.i < c.in-Columns.len = omega (arith, structs_length c.args.column.now _ _ _ rows, c.requires) in
    let below : deepest c.columns_in.result.now < size_of c.args.column.now.ty = omega (arith, deepest_lt _ _ _ parts, ap deepest same) in
    (omega (arith, below, c.decreases), subst (λ cs. All (λ (d : Column). c.args.i < length d.rows) cs) (sym same) (all_rows_at c.in-Columns.len c.in-Columns.fields.value.items c.args.i parts.lengths within))

pub made_at-returns-in_ok-row_of-in-Columns : goal.made_at-returns-in_ok-row_of-in-Columns
made_at-returns-in_ok-row_of-in-Columns t c =
    let same : c.columns_in.result.now ≡ c.in-Columns.fields.value.items = c.columns_in.ensures in
    let rows : structs_of (field_names (fields_of c.args.column.now.ty)) c.in-Columns.fields.value.items c.in-Columns.len ≡ c.args.column.now.rows = ap (cell_rows c.args.column.now.ty) (sym c.in-Columns.is) ∙ c.cells.ensures.rows in
    let parts : AreFieldsOf c.args.column.now.ty c.in-Columns.fields.value.items c.in-Columns.len = subst (ArePartsOf c.args.column.now.ty) c.in-Columns.is c.cells.ensures.parts in
    let stands = subst (λ cs. AllZip (StandsAt c.args.i) cs c.in_ok-row_of-in-Columns.field-0.items) same c.in_ok-row_of-in-Columns.ensures in
    if_ok_map _ _ c.struct_of.result (λ (x : ScalarValue) (h : raw_view x ≡ raw_struct (raws_of (map raw_view c.in_ok-row_of-in-Columns.field-0.items))). struct_stands_at c.args.column.now c.args.i c.in-Columns.fields.value.items c.in-Columns.len c.in_ok-row_of-in-Columns.field-0.items x parts rows c.requires stands h) c.struct_of.ensures

pub row_of-made_at-requires : goal.row_of-made_at-requires
row_of-made_at-requires t c =
    let i = c.loop-field.field-index in
    let below : size_of c.field-item.result.ty ≤ deepest c.args.fields.now = omega (arith, size_le-deepest c.args.fields.now i c.field-item.result c.loop-field-test.true, ap (λ (d : Column). size_of d.ty) c.field-item.is) in
    let rows : c.args.i < length c.field-item.result.rows = subst (λ (f : Column). c.args.i < length f.rows) (sym c.field-item.is) (c.requires i c.field-item.result c.loop-field-test.true) in
    (omega (arith, below, c.decreases), rows)

pub row_of-loop-field-preserved : goal.row_of-loop-field-preserved
row_of-loop-field-preserved t c =
    rw c.in_ok-push.ensures.items (all_zip_more (StandsAt c.args.i) c.args.fields.now c.loop-field.row.items c.loop-field.field-index c.field-item.result _ c.loop-field-test.true c.loop-field.invariant (subst (λ f. StandsAt c.args.i f c.in_ok-made_at.field-0) c.field-item.is c.in_ok-made_at.ensures))

pub made_at-returns-in-Truths : goal.made_at-returns-in-Truths
made_at-returns-in-Truths t c =
    let rows : vals_of c.in-Truths.truths.value ≡ c.args.column.now.rows = ap (cell_rows c.args.column.now.ty) (sym c.in-Truths.is) ∙ c.cells.ensures.rows in
    let parts : AreTruthsOf c.args.column.now.ty c.in-Truths.truths.value = subst (ArePartsOf c.args.column.now.ty) c.in-Truths.is c.cells.ensures.parts in
    let read = c.truth_at.ensures ∙ ap (λ ts. get_or ts c.args.i None) c.truths_in.ensures in
    truth_stands c.args.column.now c.in-Truths.truths.value c.args.i c.truth_at.result c.of_truth.result parts rows read c.requires c.of_truth.ensures.value c.of_truth.ensures.fit

pub made_at-returns-in-Numbers : goal.made_at-returns-in-Numbers
made_at-returns-in-Numbers t c =
    let rows : numbers_vals c.in-Numbers.numbers.value ≡ c.args.column.now.rows = ap (cell_rows c.args.column.now.ty) (sym c.in-Numbers.is) ∙ c.cells.ensures.rows in
    let parts : AreNumbersOf c.args.column.now.ty c.in-Numbers.numbers.value = subst (ArePartsOf c.args.column.now.ty) c.in-Numbers.is c.cells.ensures.parts in
    let read = c.number_at.ensures ∙ ap (λ (ns : NumberList). get_or ns.numbers c.args.i None) c.numbers_in.ensures in
    number_stands c.args.column.now c.in-Numbers.numbers.value c.args.i c.number_at.result c.of_number.result parts rows read c.requires c.of_number.ensures.value c.of_number.ensures.fit

pub made_at-is_hidden-requires : goal.made_at-is_hidden-requires
made_at-is_hidden-requires t c =
    let rows : zip_rows masked c.in-Masked.column.value.rows (vals_of c.in-Masked.nulls.value) ≡ c.args.column.now.rows = ap (cell_rows c.args.column.now.ty) (sym c.in-Masked.is) ∙ c.cells.ensures.rows in
    let parts : AreMaskedOf c.args.column.now.ty c.in-Masked.column.value c.in-Masked.nulls.value = subst (ArePartsOf c.args.column.now.ty) c.in-Masked.is c.cells.ensures.parts in
    omega (arith, masked_truths c.args.column.now c.in-Masked.column.value c.in-Masked.nulls.value parts rows, c.requires)

pub made_at-returns-then-is_hidden : goal.made_at-returns-then-is_hidden
made_at-returns-then-is_hidden t c =
    let rows : zip_rows masked c.in-Masked.column.value.rows (vals_of c.in-Masked.nulls.value) ≡ c.args.column.now.rows = ap (cell_rows c.args.column.now.ty) (sym c.in-Masked.is) ∙ c.cells.ensures.rows in
    let parts : AreMaskedOf c.args.column.now.ty c.in-Masked.column.value c.in-Masked.nulls.value = subst (ArePartsOf c.args.column.now.ty) c.in-Masked.is c.cells.ensures.parts in
    let null = c.is_hidden.ensures in (
      c.null.ensures.fit c.args.column.now.ty (masked_nullable c.args.column.now.ty c.in-Masked.column.value c.in-Masked.nulls.value parts),
      c.null.ensures.value c.args.column.now.ty ∙ sym (masked_null c.args.column.now c.in-Masked.column.value c.in-Masked.nulls.value c.args.i _ parts rows c.requires null c.if-is_hidden.true),
    )

pub made_at-made_at-requires : goal.made_at-made_at-requires
made_at-made_at-requires t c =
    let rows : zip_rows masked c.in-Masked.column.value.rows (vals_of c.in-Masked.nulls.value) ≡ c.args.column.now.rows = ap (cell_rows c.args.column.now.ty) (sym c.in-Masked.is) ∙ c.cells.ensures.rows in
    let parts : AreMaskedOf c.args.column.now.ty c.in-Masked.column.value c.in-Masked.nulls.value = subst (ArePartsOf c.args.column.now.ty) c.in-Masked.is c.cells.ensures.parts in
    let below = ap (λ (d : Column). size_of d.ty) c.column_in.ensures in (
      omega (arith, size_masked c.args.column.now.ty c.in-Masked.column.value c.in-Masked.nulls.value parts, below, c.decreases),
      omega (arith, masked_length c.args.column.now c.in-Masked.column.value c.in-Masked.nulls.value parts rows, ap (λ (d : Column). length d.rows) c.column_in.ensures, c.requires),
    )

pub made_at-returns-else-is_hidden : goal.made_at-returns-else-is_hidden
made_at-returns-else-is_hidden t c =
    let rows : zip_rows masked c.in-Masked.column.value.rows (vals_of c.in-Masked.nulls.value) ≡ c.args.column.now.rows = ap (cell_rows c.args.column.now.ty) (sym c.in-Masked.is) ∙ c.cells.ensures.rows in
    let parts : AreMaskedOf c.args.column.now.ty c.in-Masked.column.value c.in-Masked.nulls.value = subst (ArePartsOf c.args.column.now.ty) c.in-Masked.is c.cells.ensures.parts in
    let null = c.is_hidden.ensures in
    let own = masked_own c.args.column.now c.in-Masked.column.value c.in-Masked.nulls.value c.args.i _ parts rows c.requires null c.if-is_hidden.false in
    if_ok_map _ _ c.made_at.result (λ (x : ScalarValue) (h : StandsAt c.args.i c.column_in.result.now x). inner_stands c.args.column.now c.in-Masked.column.value c.in-Masked.nulls.value c.args.i x parts own (subst (λ (d : Column). StandsAt c.args.i d x) c.column_in.ensures h)) c.made_at.ensures

use Rattle.std.proofs.Common.{◌≡◌, ◌<◌, ◌≤◌, None, true, ap, sym, ◌∙◌, subst, arith, length, refl, get_or}
use Rattle.std.specs.Prelude.{Decides}
use Rattle.std.specs.List.{All, AllZip}
use Rattle.std.proofs.Math.ListN.{replicate}
use Rattle.std.proofs.lemmas.List.{get_or_read}
use Rattle.vx_dtype.specs.declared.Nullability.TheVariants.{Nullable}
use Rattle.vx_dtype.specs.TypeRules.{field_names, fields_of, with_nullability}
use Rattle.vx_dtype.specs.Fits.{fits}
use Rattle.vx_dtype.specs.RawViews.{raw_view}
use Rattle.vx_words.specs.Truths.{is_true, vals_of}
use Rattle.vx_numbers.specs.Numbers.{NumberList}
use Rattle.vx_column.specs.RawParts.{is_raw_null}
use Rattle.vx_column.specs.Columns.{rows_fit, Column, masked, seen, seen_rows, values_fit, zip_rows}
use Rattle.vx_column.specs.StructColumns.{column_types}
use Rattle.vx_column.specs.TypeSizes.{size_of}
use Rattle.vx_column.specs.Sizes.{size_masked}
use Rattle.vx_column.specs.Cells.{cell_rows, masks_apart, structs_of, AreFieldsOf, AreMaskedOf, ArePartsOf, AreStructsOf, SameAt}
use Rattle.vx_column.specs.ColumnParts.{AreNumbersOf, AreTruthsOf}
use Rattle.vx_column.specs.PlainValues.{numbers_vals}
use Rattle.vx_column.proofs.StructLemmas.{all_rows_at}
use Rattle.vx_column.proofs.CellLemmas.{deepest, deepest_lt, size_le-deepest, structs_length, constant_row, values_length, values_row, values_fit_at}
use Rattle.vx_column.proofs.TruthLemmas.{truth_stands}
use Rattle.vx_column.proofs.NumberLemmas.{number_stands}
use Rattle.vx_column.proofs.MaskedLemmas.{masked_length, masked_truths, masked_null, masked_own}
use Rattle.vx_column.proofs.SameLemmas.{turned, kept_structs_of, kept_types_same, fields_alike, types_at, zip_more}
use Rattle.vx_column.proofs.SameMasked.{types_within, value_within, null_kept, same_kept, same_null, same_within, same_structs, within_same, within_kept, within_no_null}
use Rattle.vx_column.proofs.equality.+same.Goals as goal

pub same_at-has_at-requires-in-Rows-clause-fit : goal.same_at-has_at-requires-in-Rows-clause-fit
same_at-has_at-requires-in-Rows-clause-fit t c =
    let rows : seen_rows c.args.left.now.ty c.in-Rows.rows.value.items ≡ c.args.left.now.rows = ap (cell_rows c.args.left.now.ty) (sym c.in-Rows.is) ∙ c.cells.ensures.rows in
    let fit : values_fit c.args.left.now.ty c.in-Rows.rows.value.items ≡ true = (subst (ArePartsOf c.args.left.now.ty) c.in-Rows.is c.cells.ensures.parts).fit in
    let read = c.index-values-i.is ∙ ap (λ xs. get_or xs c.args.i c.index-values-i.result) c.values_in-values.ensures in
    subst (λ u. fits (raw_view c.index-values-i.result) u ≡ true) c.requires.types (values_fit_at c.args.left.now c.in-Rows.rows.value.items c.args.i _ rows fit c.requires.left read)

pub same_at-returns-in-Rows : goal.same_at-returns-in-Rows
same_at-returns-in-Rows t c =
    let rows : seen_rows c.args.left.now.ty c.in-Rows.rows.value.items ≡ c.args.left.now.rows = ap (cell_rows c.args.left.now.ty) (sym c.in-Rows.is) ∙ c.cells.ensures.rows in
    let read = c.index-values-i.is ∙ ap (λ xs. get_or xs c.args.i c.index-values-i.result) c.values_in-values.ensures in
    same_kept c.args.left.now c.args.right.now c.args.i c.index-values-i.result _ c.requires.types (values_row c.args.left.now c.in-Rows.rows.value.items c.args.i _ rows c.requires.left read) c.has_at-in-Rows.ensures

pub same_at-has_at-requires-in-Truths-clause-fit : goal.same_at-has_at-requires-in-Truths-clause-fit
same_at-has_at-requires-in-Truths-clause-fit t c =
    let rows : vals_of c.in-Truths.truths.value ≡ c.args.left.now.rows = ap (cell_rows c.args.left.now.ty) (sym c.in-Truths.is) ∙ c.cells.ensures.rows in
    let parts : AreTruthsOf c.args.left.now.ty c.in-Truths.truths.value = subst (ArePartsOf c.args.left.now.ty) c.in-Truths.is c.cells.ensures.parts in
    let read = c.truth_at.ensures ∙ ap (λ ts. get_or ts c.args.i None) c.truths_in.ensures in
    subst (λ u. fits (raw_view c.of_truth-own.result) u ≡ true) c.requires.types (truth_stands c.args.left.now c.in-Truths.truths.value c.args.i c.truth_at.result c.of_truth-own.result parts rows read c.requires.left c.of_truth-own.ensures.value c.of_truth-own.ensures.fit).0

pub same_at-returns-in-Truths : goal.same_at-returns-in-Truths
same_at-returns-in-Truths t c =
    let rows : vals_of c.in-Truths.truths.value ≡ c.args.left.now.rows = ap (cell_rows c.args.left.now.ty) (sym c.in-Truths.is) ∙ c.cells.ensures.rows in
    let parts : AreTruthsOf c.args.left.now.ty c.in-Truths.truths.value = subst (ArePartsOf c.args.left.now.ty) c.in-Truths.is c.cells.ensures.parts in
    let read = c.truth_at.ensures ∙ ap (λ ts. get_or ts c.args.i None) c.truths_in.ensures in
    let stands = truth_stands c.args.left.now c.in-Truths.truths.value c.args.i c.truth_at.result c.of_truth-own.result parts rows read c.requires.left c.of_truth-own.ensures.value c.of_truth-own.ensures.fit in
    same_kept c.args.left.now c.args.right.now c.args.i c.of_truth-own.result _ c.requires.types stands.1 c.has_at-in-Truths.ensures

pub same_at-has_at-requires-in-Numbers-clause-fit : goal.same_at-has_at-requires-in-Numbers-clause-fit
same_at-has_at-requires-in-Numbers-clause-fit t c =
    let rows : numbers_vals c.in-Numbers.numbers.value ≡ c.args.left.now.rows = ap (cell_rows c.args.left.now.ty) (sym c.in-Numbers.is) ∙ c.cells.ensures.rows in
    let parts : AreNumbersOf c.args.left.now.ty c.in-Numbers.numbers.value = subst (ArePartsOf c.args.left.now.ty) c.in-Numbers.is c.cells.ensures.parts in
    let read = c.number_at.ensures ∙ ap (λ (ns : NumberList). get_or ns.numbers c.args.i None) c.numbers_in.ensures in
    subst (λ u. fits (raw_view c.of_number-own.result) u ≡ true) c.requires.types (number_stands c.args.left.now c.in-Numbers.numbers.value c.args.i c.number_at.result c.of_number-own.result parts rows read c.requires.left c.of_number-own.ensures.value c.of_number-own.ensures.fit).0

pub same_at-has_struct-requires : goal.same_at-has_struct-requires
same_at-has_struct-requires t c =
    let rows : structs_of (field_names (fields_of c.args.left.now.ty)) c.in-Columns.fields.value.items c.in-Columns.len ≡ c.args.left.now.rows = ap (cell_rows c.args.left.now.ty) (sym c.in-Columns.is) ∙ c.cells.ensures.rows in
    let parts : AreFieldsOf c.args.left.now.ty c.in-Columns.fields.value.items c.in-Columns.len = subst (ArePartsOf c.args.left.now.ty) c.in-Columns.is c.cells.ensures.parts in
    let below : deepest c.columns_in.result.now < size_of c.args.left.now.ty = omega (arith, deepest_lt _ _ _ parts, ap deepest c.columns_in.ensures) in
    let kept = subst (AreStructsOf c.args.left.now) (sym c.columns_in.ensures) (kept_structs_of c.args.left.now c.in-Columns.fields.value.items c.in-Columns.len parts rows) in
    (omega (arith, below, c.decreases), (c.requires.types, (c.requires.right, (c.requires.left, kept))))

pub same_at-is_hidden-requires : goal.same_at-is_hidden-requires
same_at-is_hidden-requires t c =
    let rows : zip_rows masked c.in-Masked.column.value.rows (vals_of c.in-Masked.nulls.value) ≡ c.args.left.now.rows = ap (cell_rows c.args.left.now.ty) (sym c.in-Masked.is) ∙ c.cells.ensures.rows in
    let parts : AreMaskedOf c.args.left.now.ty c.in-Masked.column.value c.in-Masked.nulls.value = subst (ArePartsOf c.args.left.now.ty) c.in-Masked.is c.cells.ensures.parts in
    omega (arith, masked_truths c.args.left.now c.in-Masked.column.value c.in-Masked.nulls.value parts rows, c.requires.left)

pub same_at-returns-then-is_hidden : goal.same_at-returns-then-is_hidden
same_at-returns-then-is_hidden t c =
    let rows : zip_rows masked c.in-Masked.column.value.rows (vals_of c.in-Masked.nulls.value) ≡ c.args.left.now.rows = ap (cell_rows c.args.left.now.ty) (sym c.in-Masked.is) ∙ c.cells.ensures.rows in
    let parts : AreMaskedOf c.args.left.now.ty c.in-Masked.column.value c.in-Masked.nulls.value = subst (ArePartsOf c.args.left.now.ty) c.in-Masked.is c.cells.ensures.parts in
    let told : c.is_hidden.result ≡ is_true (get_or c.in-Masked.nulls.value c.args.i None) = c.is_hidden.ensures in
    same_null c.args.left.now c.args.right.now c.args.i _ (masked_null c.args.left.now c.in-Masked.column.value c.in-Masked.nulls.value c.args.i _ parts rows c.requires.left told c.if-is_hidden.true) c.is_valid.ensures

pub same_at-has_inner-requires : goal.same_at-has_inner-requires
same_at-has_inner-requires t c =
    let rows : zip_rows masked c.in-Masked.column.value.rows (vals_of c.in-Masked.nulls.value) ≡ c.args.left.now.rows = ap (cell_rows c.args.left.now.ty) (sym c.in-Masked.is) ∙ c.cells.ensures.rows in
    let parts : AreMaskedOf c.args.left.now.ty c.in-Masked.column.value c.in-Masked.nulls.value = subst (ArePartsOf c.args.left.now.ty) c.in-Masked.is c.cells.ensures.parts in
    let same : c.column_in.result.now ≡ c.in-Masked.column.value = c.column_in.ensures in
    let below : size_of c.column_in.result.now.ty < size_of c.args.left.now.ty = omega (arith, size_masked c.args.left.now.ty c.in-Masked.column.value c.in-Masked.nulls.value parts, ap (λ (d : Column). size_of d.ty) same) in
    let within : c.args.i < length c.in-Masked.column.value.rows = omega (arith, masked_length c.args.left.now c.in-Masked.column.value c.in-Masked.nulls.value parts rows, c.requires.left) in (
      omega (arith, below, c.decreases),
      (
        subst (λ (d : Column). c.args.right.now.ty ≡ with_nullability d.ty Nullable) (sym same) (sym c.requires.types ∙ parts.whole),
        (
          subst (λ (d : Column). masks_apart d.ty ≡ true) (sym same) parts.apart,
          (
            subst (λ (d : Column). rows_fit d.ty d.rows ≡ true) (sym same) parts.fit,
            (c.requires.right, subst (λ (d : Column). c.args.i < length d.rows) (sym same) within),
          ),
        ),
      ),
    )

pub same_at-returns-else-is_hidden : goal.same_at-returns-else-is_hidden
same_at-returns-else-is_hidden t c =
    let rows : zip_rows masked c.in-Masked.column.value.rows (vals_of c.in-Masked.nulls.value) ≡ c.args.left.now.rows = ap (cell_rows c.args.left.now.ty) (sym c.in-Masked.is) ∙ c.cells.ensures.rows in
    let parts : AreMaskedOf c.args.left.now.ty c.in-Masked.column.value c.in-Masked.nulls.value = subst (ArePartsOf c.args.left.now.ty) c.in-Masked.is c.cells.ensures.parts in
    let told : c.is_hidden.result ≡ is_true (get_or c.in-Masked.nulls.value c.args.i None) = c.is_hidden.ensures in
    same_within c.args.left.now c.in-Masked.column.value c.args.right.now c.args.i _ (masked_own c.args.left.now c.in-Masked.column.value c.in-Masked.nulls.value c.args.i _ parts rows c.requires.left told c.if-is_hidden.false) (subst (λ (d : Column). Decides c.has_inner.result (SameAt c.args.i d c.args.right.now)) c.column_in.ensures c.has_inner.ensures)

pub has_struct-has_at-requires-in-Rows-clause-fit : goal.has_struct-has_at-requires-in-Rows-clause-fit
has_struct-has_at-requires-in-Rows-clause-fit t c =
    let rows : seen_rows c.args.column.now.ty c.in-Rows.rows.value.items ≡ c.args.column.now.rows = ap (cell_rows c.args.column.now.ty) (sym c.in-Rows.is) ∙ c.cells.ensures.rows in
    let fit : values_fit c.args.column.now.ty c.in-Rows.rows.value.items ≡ true = (subst (ArePartsOf c.args.column.now.ty) c.in-Rows.is c.cells.ensures.parts).fit in
    let read = c.index-values-i.is ∙ ap (λ xs. get_or xs c.args.i c.index-values-i.result) c.values_in-values.ensures in
    subst (λ u. fits (raw_view c.index-values-i.result) u ≡ true) (sym c.requires.types) (values_fit_at c.args.column.now c.in-Rows.rows.value.items c.args.i _ rows fit c.requires.column read)

pub has_struct-returns-in-Rows : goal.has_struct-returns-in-Rows
has_struct-returns-in-Rows t c =
    let rows : seen_rows c.args.column.now.ty c.in-Rows.rows.value.items ≡ c.args.column.now.rows = ap (cell_rows c.args.column.now.ty) (sym c.in-Rows.is) ∙ c.cells.ensures.rows in
    let read = c.index-values-i.is ∙ ap (λ xs. get_or xs c.args.i c.index-values-i.result) c.values_in-values.ensures in
    turned _ _ _ (same_kept c.args.column.now c.args.structs.now c.args.i c.index-values-i.result _ (sym c.requires.types) (values_row c.args.column.now c.in-Rows.rows.value.items c.args.i _ rows c.requires.column read) c.has_at-in-Rows.ensures)

pub has_struct-same_fields-requires : goal.has_struct-same_fields-requires
has_struct-same_fields-requires t c =
    let rows : structs_of (field_names (fields_of c.args.column.now.ty)) c.in-Columns.others.value.items c.in-Columns.len ≡ c.args.column.now.rows = ap (cell_rows c.args.column.now.ty) (sym c.in-Columns.is) ∙ c.cells.ensures.rows in
    let parts : AreFieldsOf c.args.column.now.ty c.in-Columns.others.value.items c.in-Columns.len = subst (ArePartsOf c.args.column.now.ty) c.in-Columns.is c.cells.ensures.parts in
    let types = kept_types_same c.args.column.now c.args.structs.now c.in-Columns.others.value.items c.args.fields.now c.in-Columns.len c.requires.types parts c.requires.kept in
    let within : c.args.i < c.in-Columns.len = omega (arith, structs_length c.args.column.now _ _ _ rows, c.requires.column) in (
      omega (arith, c.decreases),
      (
        types ∙ ap column_types (sym c.columns_in.ensures),
        (
          all_rows_at (length c.args.structs.now.rows) c.args.fields.now c.args.i c.requires.kept.fields.lengths c.requires.structs,
          subst (λ cs. All (λ (d : Column). c.args.i < length d.rows) cs) (sym c.columns_in.ensures) (all_rows_at c.in-Columns.len c.in-Columns.others.value.items c.args.i parts.lengths within),
        ),
      ),
    )

pub has_struct-returns-in-Columns : goal.has_struct-returns-in-Columns
has_struct-returns-in-Columns t c =
    let rows : structs_of (field_names (fields_of c.args.column.now.ty)) c.in-Columns.others.value.items c.in-Columns.len ≡ c.args.column.now.rows = ap (cell_rows c.args.column.now.ty) (sym c.in-Columns.is) ∙ c.cells.ensures.rows in
    let parts : AreFieldsOf c.args.column.now.ty c.in-Columns.others.value.items c.in-Columns.len = subst (ArePartsOf c.args.column.now.ty) c.in-Columns.is c.cells.ensures.parts in
    let told : Decides c.same_fields.result (AllZip (SameAt c.args.i) c.args.fields.now c.in-Columns.others.value.items) = subst (λ cs. Decides c.same_fields.result (AllZip (SameAt c.args.i) c.args.fields.now cs)) c.columns_in.ensures c.same_fields.ensures in
    same_structs c.args.structs.now c.args.column.now c.args.i c.args.fields.now c.in-Columns.others.value.items (length c.args.structs.now.rows) c.in-Columns.len _ c.requires.types c.requires.kept.fields parts c.requires.kept.rows rows c.requires.structs c.requires.column told

pub same_fields-same_at-requires : goal.same_fields-same_at-requires
same_fields-same_at-requires t c =
    let number = fields_alike c.args.left.now c.args.right.now c.requires.types in
    let within : c.loop-k.k < length c.args.right.now = omega (arith, number, c.loop-k-test.true) in
    let below : size_of c.index-left-k.result.ty ≤ deepest c.args.left.now = omega (arith, size_le-deepest c.args.left.now c.loop-k.k c.index-left-k.result c.loop-k-test.true, ap (λ (d : Column). size_of d.ty) c.index-left-k.is) in (
      omega (arith, below, c.decreases),
      (
        types_at c.args.left.now c.args.right.now c.loop-k.k c.index-left-k.result c.index-right-k.result c.requires.types c.loop-k-test.true c.index-left-k.is c.index-right-k.is,
        (
          subst (λ (d : Column). c.args.i < length d.rows) (sym c.index-left-k.is) (c.requires.left c.loop-k.k c.index-left-k.result c.loop-k-test.true),
          subst (λ (d : Column). c.args.i < length d.rows) (sym c.index-right-k.is) (c.requires.right c.loop-k.k c.index-right-k.result within),
        ),
      ),
    )

pub same_fields-loop-k-preserved : goal.same_fields-loop-k-preserved
same_fields-loop-k-preserved t c =
    let number = fields_alike c.args.left.now c.args.right.now c.requires.types in
    let same = c.if-not-same_at.ensures.0 refl in
    let here = subst (λ (d : Column). SameAt c.args.i (get_or c.args.left.now c.loop-k.k c.index-left-k.result) d) c.index-right-k.is (subst (λ (d : Column). SameAt c.args.i d c.index-right-k.result) c.index-left-k.is same) in
    zip_more (SameAt c.args.i) c.args.left.now c.args.right.now c.loop-k.k c.index-left-k.result c.index-right-k.result c.loop-k-test.true (omega (arith, number, c.loop-k-test.true)) c.loop-k.invariant here

pub has_inner-has_at-requires-clause-fit : goal.has_inner-has_at-requires-clause-fit
has_inner-has_at-requires-clause-fit t c =
    let fit : fits (raw_view c.in-Constant.value) c.args.column.now.ty ≡ true = subst (ArePartsOf c.args.column.now.ty) c.in-Constant.is c.cells.ensures.parts in
    value_within c.args.column.now.ty c.args.inner.now.ty c.in-Constant.value c.is_null_value.result c.requires.types fit c.is_null_value.ensures c.if-not-is_null_value.true

pub has_inner-returns-then-not-is_null_value : goal.has_inner-returns-then-not-is_null_value
has_inner-returns-then-not-is_null_value t c =
    let rows : replicate c.in-Constant.len (seen c.args.column.now.ty c.in-Constant.value) ≡ c.args.column.now.rows = ap (cell_rows c.args.column.now.ty) (sym c.in-Constant.is) ∙ c.cells.ensures.rows in
    within_kept c.args.column.now c.args.inner.now c.args.i c.in-Constant.value _ c.requires.types (constant_row c.args.column.now _ _ _ rows c.requires.column) c.has_at.ensures

pub has_inner-has_at-requires-then-not-is_null_value-2-clause-fit : goal.has_inner-has_at-requires-then-not-is_null_value-2-clause-fit
has_inner-has_at-requires-then-not-is_null_value-2-clause-fit t c =
    let rows : seen_rows c.args.column.now.ty c.in-Rows.rows.value.items ≡ c.args.column.now.rows = ap (cell_rows c.args.column.now.ty) (sym c.in-Rows.is) ∙ c.cells.ensures.rows in
    let fit : values_fit c.args.column.now.ty c.in-Rows.rows.value.items ≡ true = (subst (ArePartsOf c.args.column.now.ty) c.in-Rows.is c.cells.ensures.parts).fit in
    let within : c.args.i < length c.in-Rows.rows.value.items = omega (arith, values_length c.args.column.now c.in-Rows.rows.value.items rows, c.requires.column) in
    let first = c.index-values-i.is ∙ ap (λ xs. get_or xs c.args.i c.index-values-i.result) c.values_in-values.ensures in
    let read = c.index-values-i-then-not-is_null_value-2.is ∙ ap (λ xs. get_or xs c.args.i c.index-values-i-then-not-is_null_value-2.result) c.values_in-values.ensures in
    let same : c.index-values-i.result ≡ c.index-values-i-then-not-is_null_value-2.result = get_or_read c.in-Rows.rows.value.items c.args.i c.index-values-i.result within first c.index-values-i-then-not-is_null_value-2.result ∙ sym read in
    value_within c.args.column.now.ty c.args.inner.now.ty c.index-values-i-then-not-is_null_value-2.result c.is_null_value-in-Rows.result c.requires.types (values_fit_at c.args.column.now c.in-Rows.rows.value.items c.args.i _ rows fit c.requires.column read) (c.is_null_value-in-Rows.ensures ∙ ap (λ x. is_raw_null (raw_view x)) same) c.if-not-is_null_value-2.true

pub has_inner-returns-then-not-is_null_value-2 : goal.has_inner-returns-then-not-is_null_value-2
has_inner-returns-then-not-is_null_value-2 t c =
    let rows : seen_rows c.args.column.now.ty c.in-Rows.rows.value.items ≡ c.args.column.now.rows = ap (cell_rows c.args.column.now.ty) (sym c.in-Rows.is) ∙ c.cells.ensures.rows in
    let read = c.index-values-i-then-not-is_null_value-2.is ∙ ap (λ xs. get_or xs c.args.i c.index-values-i-then-not-is_null_value-2.result) c.values_in-values.ensures in
    within_kept c.args.column.now c.args.inner.now c.args.i c.index-values-i-then-not-is_null_value-2.result _ c.requires.types (values_row c.args.column.now c.in-Rows.rows.value.items c.args.i _ rows c.requires.column read) c.has_at-then-not-is_null_value-2.ensures

pub has_inner-returns-else-not-is_null_value-2 : goal.has_inner-returns-else-not-is_null_value-2
has_inner-returns-else-not-is_null_value-2 t c =
    let rows : seen_rows c.args.column.now.ty c.in-Rows.rows.value.items ≡ c.args.column.now.rows = ap (cell_rows c.args.column.now.ty) (sym c.in-Rows.is) ∙ c.cells.ensures.rows in
    let fit : values_fit c.args.column.now.ty c.in-Rows.rows.value.items ≡ true = (subst (ArePartsOf c.args.column.now.ty) c.in-Rows.is c.cells.ensures.parts).fit in
    let read = c.index-values-i.is ∙ ap (λ xs. get_or xs c.args.i c.index-values-i.result) c.values_in-values.ensures in
    let null = null_kept c.args.column.now c.args.i c.index-values-i.result _ (values_fit_at c.args.column.now c.in-Rows.rows.value.items c.args.i _ rows fit c.requires.column read) (values_row c.args.column.now c.in-Rows.rows.value.items c.args.i _ rows c.requires.column read) c.is_null_value-in-Rows.ensures c.if-not-is_null_value-2.false in
    within_no_null c.args.column.now c.args.inner.now c.args.i _ c.requires.apart c.requires.fit c.requires.inner null c.if-not-is_null_value-2.false

pub has_inner-returns-else-not-is_null_value : goal.has_inner-returns-else-not-is_null_value
has_inner-returns-else-not-is_null_value t c =
    let rows : replicate c.in-Constant.len (seen c.args.column.now.ty c.in-Constant.value) ≡ c.args.column.now.rows = ap (cell_rows c.args.column.now.ty) (sym c.in-Constant.is) ∙ c.cells.ensures.rows in
    let fit : fits (raw_view c.in-Constant.value) c.args.column.now.ty ≡ true = subst (ArePartsOf c.args.column.now.ty) c.in-Constant.is c.cells.ensures.parts in
    let null = null_kept c.args.column.now c.args.i c.in-Constant.value _ fit (constant_row c.args.column.now _ _ _ rows c.requires.column) c.is_null_value.ensures c.if-not-is_null_value.false in
    within_no_null c.args.column.now c.args.inner.now c.args.i _ c.requires.apart c.requires.fit c.requires.inner null c.if-not-is_null_value.false

pub has_inner-is_hidden-requires : goal.has_inner-is_hidden-requires
has_inner-is_hidden-requires t c =
    let rows : zip_rows masked c.in-Masked.other.value.rows (vals_of c.in-Masked.nulls.value) ≡ c.args.column.now.rows = ap (cell_rows c.args.column.now.ty) (sym c.in-Masked.is) ∙ c.cells.ensures.rows in
    let parts : AreMaskedOf c.args.column.now.ty c.in-Masked.other.value c.in-Masked.nulls.value = subst (ArePartsOf c.args.column.now.ty) c.in-Masked.is c.cells.ensures.parts in
    omega (arith, masked_truths c.args.column.now c.in-Masked.other.value c.in-Masked.nulls.value parts rows, c.requires.column)

pub has_inner-same_at-requires : goal.has_inner-same_at-requires
has_inner-same_at-requires t c =
    let rows : zip_rows masked c.in-Masked.other.value.rows (vals_of c.in-Masked.nulls.value) ≡ c.args.column.now.rows = ap (cell_rows c.args.column.now.ty) (sym c.in-Masked.is) ∙ c.cells.ensures.rows in
    let parts : AreMaskedOf c.args.column.now.ty c.in-Masked.other.value c.in-Masked.nulls.value = subst (ArePartsOf c.args.column.now.ty) c.in-Masked.is c.cells.ensures.parts in
    let same : c.column_in.result.now ≡ c.in-Masked.other.value = c.column_in.ensures in
    let types = types_within c.args.column.now.ty c.args.inner.now.ty c.in-Masked.other.value.ty c.requires.types parts.whole c.requires.apart parts.apart in
    let within : c.args.i < length c.in-Masked.other.value.rows = omega (arith, masked_length c.args.column.now c.in-Masked.other.value c.in-Masked.nulls.value parts rows, c.requires.column) in (
      omega (arith, c.decreases),
      (types ∙ ap (λ (d : Column). d.ty) (sym same), (c.requires.inner, subst (λ (d : Column). c.args.i < length d.rows) (sym same) within)),
    )

pub has_inner-returns-then-not-is_hidden : goal.has_inner-returns-then-not-is_hidden
has_inner-returns-then-not-is_hidden t c =
    let rows : zip_rows masked c.in-Masked.other.value.rows (vals_of c.in-Masked.nulls.value) ≡ c.args.column.now.rows = ap (cell_rows c.args.column.now.ty) (sym c.in-Masked.is) ∙ c.cells.ensures.rows in
    let parts : AreMaskedOf c.args.column.now.ty c.in-Masked.other.value c.in-Masked.nulls.value = subst (ArePartsOf c.args.column.now.ty) c.in-Masked.is c.cells.ensures.parts in
    let told : c.is_hidden.result ≡ is_true (get_or c.in-Masked.nulls.value c.args.i None) = c.is_hidden.ensures in
    let own = masked_own c.args.column.now c.in-Masked.other.value c.in-Masked.nulls.value c.args.i _ parts rows c.requires.column told c.if-not-is_hidden.true in
    within_same c.args.column.now c.in-Masked.other.value c.args.inner.now c.args.i _ own (subst (λ (d : Column). Decides c.same_at.result (SameAt c.args.i c.args.inner.now d)) c.column_in.ensures c.same_at.ensures)

pub has_inner-returns-else-not-is_hidden : goal.has_inner-returns-else-not-is_hidden
has_inner-returns-else-not-is_hidden t c =
    let rows : zip_rows masked c.in-Masked.other.value.rows (vals_of c.in-Masked.nulls.value) ≡ c.args.column.now.rows = ap (cell_rows c.args.column.now.ty) (sym c.in-Masked.is) ∙ c.cells.ensures.rows in
    let parts : AreMaskedOf c.args.column.now.ty c.in-Masked.other.value c.in-Masked.nulls.value = subst (ArePartsOf c.args.column.now.ty) c.in-Masked.is c.cells.ensures.parts in
    let told : c.is_hidden.result ≡ is_true (get_or c.in-Masked.nulls.value c.args.i None) = c.is_hidden.ensures in
    let null = masked_null c.args.column.now c.in-Masked.other.value c.in-Masked.nulls.value c.args.i _ parts rows c.requires.column told c.if-not-is_hidden.false in
    within_no_null c.args.column.now c.args.inner.now c.args.i _ c.requires.apart c.requires.fit c.requires.inner null c.if-not-is_hidden.false

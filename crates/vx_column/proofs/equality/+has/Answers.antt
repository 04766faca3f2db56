use Rattle.std.proofs.Common.{◌≡◌, ◌<◌, ◌≤◌, true, ap, sym, ◌∙◌, subst, arith, length, get_or, Some, None, refl}
use Rattle.std.specs.Prelude.{Decides}
use Rattle.std.specs.List.{All, AllZip}
use Rattle.std.proofs.Math.ListN.{replicate}
use Rattle.vx_dtype.specs.TypeRules.{field_names, fields_of}
use Rattle.vx_column.specs.TypeSizes.{size_of}
use Rattle.vx_column.specs.Sizes.{size_masked}
use Rattle.vx_dtype.specs.EqualLaws.{raw_decides}
use Rattle.vx_dtype.specs.Fits.{fits}
use Rattle.vx_dtype.specs.RawViews.{raw_view}
use Rattle.vx_dtype.specs.declared.values.ScalarValue.{ScalarValue}
use Rattle.vx_column.specs.Columns.{Column, masked, seen, seen_rows, values_fit, zip_rows}
use Rattle.vx_column.specs.Cells.{cell_rows, structs_of, AreFieldsOf, AreMaskedOf, ArePartsOf, HasFit, HasAt}
use Rattle.vx_column.specs.ColumnParts.{AreTruthsOf}
use Rattle.vx_column.proofs.StructLemmas.{all_rows_at}
use Rattle.vx_column.proofs.CellLemmas.{deepest, deepest_lt, size_le-deepest, structs_length, constant_row, values_row, values_fit_at}
use Rattle.vx_column.proofs.SameLemmas.{has_kept, has_struct, no_null, struct_parts, parts_of_row, zip_length, zip_at, zip_more, zip_all}
use Rattle.vx_words.specs.Truths.{is_true, vals_of}
use Rattle.vx_column.proofs.TruthLemmas.{truth_stands}
use Rattle.vx_numbers.specs.Numbers.{NumberList}
use Rattle.vx_column.specs.ColumnParts.{AreNumbersOf}
use Rattle.vx_column.specs.PlainValues.{numbers_vals}
use Rattle.vx_column.proofs.NumberLemmas.{number_stands}
use Rattle.vx_column.proofs.MaskedLemmas.{masked_length, masked_truths, masked_null, masked_own}
use Rattle.vx_column.proofs.SameMasked.{value_within, has_null, has_within, has_no_null}
use Rattle.vx_column.proofs.equality.+has.Goals as goal

pub has_at-returns-in-Constant : goal.has_at-returns-in-Constant
has_at-returns-in-Constant t c =
    let rows : replicate c.in-Constant.len (seen c.args.column.now.ty c.in-Constant.own) ≡ c.args.column.now.rows = ap (cell_rows c.args.column.now.ty) (sym c.in-Constant.is) ∙ c.cells.ensures.rows in
    let fit : fits (raw_view c.in-Constant.own) c.args.column.now.ty ≡ true = subst (ArePartsOf c.args.column.now.ty) c.in-Constant.is c.cells.ensures.parts in
    let same : Decides c.eq.result (raw_view c.in-Constant.own ≡ raw_view c.args.value.now) = rw c.eq.ensures (raw_decides (raw_view c.in-Constant.own) (raw_view c.args.value.now)) in
    has_kept c.args.column.now c.args.i c.in-Constant.own c.args.value.now _ fit c.requires.fit (constant_row c.args.column.now _ _ _ rows c.requires.row) same

pub has_at-returns-in-Rows : goal.has_at-returns-in-Rows
has_at-returns-in-Rows t c =
    let rows : seen_rows c.args.column.now.ty c.in-Rows.rows.value.items ≡ c.args.column.now.rows = ap (cell_rows c.args.column.now.ty) (sym c.in-Rows.is) ∙ c.cells.ensures.rows in
    let fit : values_fit c.args.column.now.ty c.in-Rows.rows.value.items ≡ true = (subst (ArePartsOf c.args.column.now.ty) c.in-Rows.is c.cells.ensures.parts).fit in
    let read = c.index-values-i.is ∙ ap (λ xs. get_or xs c.args.i c.index-values-i.result) c.values_in-values.ensures in
    let same : Decides c.eq-in-Rows.result (raw_view c.index-values-i.result ≡ raw_view c.args.value.now) = rw c.eq-in-Rows.ensures (raw_decides (raw_view c.index-values-i.result) (raw_view c.args.value.now)) in
    has_kept c.args.column.now c.args.i c.index-values-i.result c.args.value.now _ (values_fit_at c.args.column.now c.in-Rows.rows.value.items c.args.i _ rows fit c.requires.row read) c.requires.fit (values_row c.args.column.now c.in-Rows.rows.value.items c.args.i _ rows c.requires.row read) same

pub has_at-have_at-requires : goal.has_at-have_at-requires
has_at-have_at-requires t c =
    let rows : structs_of (field_names (fields_of c.args.column.now.ty)) c.in-Columns.fields.value.items c.in-Columns.len ≡ c.args.column.now.rows = ap (cell_rows c.args.column.now.ty) (sym c.in-Columns.is) ∙ c.cells.ensures.rows in
    let parts : AreFieldsOf c.args.column.now.ty c.in-Columns.fields.value.items c.in-Columns.len = subst (ArePartsOf c.args.column.now.ty) c.in-Columns.is c.cells.ensures.parts in
    let within : c.args.i < c.in-Columns.len = omega (arith, structs_length c.args.column.now _ _ _ rows, c.requires.row) in
    let below : deepest c.columns_in.result.now < size_of c.args.column.now.ty = omega (arith, deepest_lt _ _ _ parts, ap deepest c.columns_in.ensures) in
    let own = struct_parts c.args.column.now.ty c.in-Columns.fields.value.items c.in-Columns.len c.args.value.now (Some c.in-Some.parts.now) parts c.requires.fit c.in-Some.ensures in (
      omega (arith, below, c.decreases),
      (
        subst (λ cs. All (λ (d : Column). c.args.i < length d.rows) cs) (sym c.columns_in.ensures) (all_rows_at c.in-Columns.len c.in-Columns.fields.value.items c.args.i parts.lengths within),
        subst (λ cs. AllZip HasFit cs c.in-Some.parts.now) (sym c.columns_in.ensures) (parts_of_row c.args.column.now.ty c.in-Columns.fields.value.items c.in-Columns.len _ c.in-Some.parts.now parts own),
      ),
    )

pub has_at-returns-in-Some : goal.has_at-returns-in-Some
has_at-returns-in-Some t c =
    let rows : structs_of (field_names (fields_of c.args.column.now.ty)) c.in-Columns.fields.value.items c.in-Columns.len ≡ c.args.column.now.rows = ap (cell_rows c.args.column.now.ty) (sym c.in-Columns.is) ∙ c.cells.ensures.rows in
    let parts : AreFieldsOf c.args.column.now.ty c.in-Columns.fields.value.items c.in-Columns.len = subst (ArePartsOf c.args.column.now.ty) c.in-Columns.is c.cells.ensures.parts in
    let own = struct_parts c.args.column.now.ty c.in-Columns.fields.value.items c.in-Columns.len c.args.value.now (Some c.in-Some.parts.now) parts c.requires.fit c.in-Some.ensures in
    has_struct c.args.column.now c.args.i c.in-Columns.fields.value.items c.in-Columns.len c.args.value.now c.in-Some.parts.now _ parts rows c.requires.row own (subst (λ cs. Decides c.have_at.result (AllZip (HasAt c.args.i) cs c.in-Some.parts.now)) c.columns_in.ensures c.have_at.ensures)

pub has_at-returns-in-None : goal.has_at-returns-in-None
has_at-returns-in-None t c =
    let parts : AreFieldsOf c.args.column.now.ty c.in-Columns.fields.value.items c.in-Columns.len = subst (ArePartsOf c.args.column.now.ty) c.in-Columns.is c.cells.ensures.parts in
    let own = struct_parts c.args.column.now.ty c.in-Columns.fields.value.items c.in-Columns.len c.args.value.now None parts c.requires.fit c.in-None.ensures in
    no_null (fields_of c.args.column.now.ty) _ (HasAt c.args.i c.args.column.now c.args.value.now) own

pub have_at-bounds-values-k : goal.have_at-bounds-values-k
have_at-bounds-values-k t c = omega (arith, zip_length HasFit c.args.columns.now c.args.values.now c.requires.fit, c.loop-k-test.true)

pub have_at-has_at-requires : goal.have_at-has_at-requires
have_at-has_at-requires t c =
    let column = c.index-columns-k.result in
    let number = zip_length HasFit c.args.columns.now c.args.values.now c.requires.fit in
    let below : size_of c.index-columns-k.result.ty ≤ deepest c.args.columns.now = omega (arith, size_le-deepest c.args.columns.now c.loop-k.k c.index-columns-k.result c.loop-k-test.true, ap (λ (d : Column). size_of d.ty) c.index-columns-k.is) in (
      omega (arith, below, c.decreases),
      (
        subst (λ (d : Column). c.args.i < length d.rows) (sym c.index-columns-k.is) (c.requires.rows c.loop-k.k c.index-columns-k.result c.loop-k-test.true),
        subst (λ (x : ScalarValue). HasFit c.index-columns-k.result x) (sym c.index-values-k.is) (subst (λ (d : Column). HasFit d (get_or c.args.values.now c.loop-k.k c.index-values-k.result)) (sym c.index-columns-k.is) (zip_at HasFit c.args.columns.now c.args.values.now c.loop-k.k c.index-columns-k.result c.index-values-k.result c.requires.fit c.loop-k-test.true)),
      ),
    )

pub have_at-returns-then-not-has_at : goal.have_at-returns-then-not-has_at
have_at-returns-then-not-has_at t c = (
  λ e. absurd cc,
  λ p.
      let here = zip_at (HasAt c.args.i) c.args.columns.now c.args.values.now c.loop-k.k c.index-columns-k.result c.index-values-k.result p c.loop-k-test.true in
      c.if-not-has_at.ensures.1 (subst (λ (x : ScalarValue). HasAt c.args.i c.index-columns-k.result x) (sym c.index-values-k.is) (subst (λ (d : Column). HasAt c.args.i d (get_or c.args.values.now c.loop-k.k c.index-values-k.result)) (sym c.index-columns-k.is) here)),
)

pub have_at-loop-k-preserved : goal.have_at-loop-k-preserved
have_at-loop-k-preserved t c =
    let number = zip_length HasFit c.args.columns.now c.args.values.now c.requires.fit in
    let has = c.if-not-has_at.ensures.0 refl in
    let here = subst (λ (x : ScalarValue). HasAt c.args.i (get_or c.args.columns.now c.loop-k.k c.index-columns-k.result) x) c.index-values-k.is (subst (λ (d : Column). HasAt c.args.i d c.index-values-k.result) c.index-columns-k.is has) in
    zip_more (HasAt c.args.i) c.args.columns.now c.args.values.now c.loop-k.k c.index-columns-k.result c.index-values-k.result c.loop-k-test.true (omega (arith, number, c.loop-k-test.true)) c.loop-k.invariant here

pub have_at-returns : goal.have_at-returns
have_at-returns t c =
    let number = zip_length HasFit c.args.columns.now c.args.values.now c.requires.fit in
    (λ e. zip_all (HasAt c.args.i) c.args.columns.now c.args.values.now c.loop-k.k (omega arith) (omega (arith, number)) c.loop-k.invariant, λ p. refl)

pub has_at-returns-in-Truths : goal.has_at-returns-in-Truths
has_at-returns-in-Truths t c =
    let rows : vals_of c.in-Truths.truths.value ≡ c.args.column.now.rows = ap (cell_rows c.args.column.now.ty) (sym c.in-Truths.is) ∙ c.cells.ensures.rows in
    let parts : AreTruthsOf c.args.column.now.ty c.in-Truths.truths.value = subst (ArePartsOf c.args.column.now.ty) c.in-Truths.is c.cells.ensures.parts in
    let read = c.truth_at.ensures ∙ ap (λ ts. get_or ts c.args.i None) c.truths_in.ensures in
    let stands = truth_stands c.args.column.now c.in-Truths.truths.value c.args.i c.truth_at.result c.of_truth-own.result parts rows read c.requires.row c.of_truth-own.ensures.value c.of_truth-own.ensures.fit in
    let same : Decides c.eq-in-Truths.result (raw_view c.of_truth-own.result ≡ raw_view c.args.value.now) = rw c.eq-in-Truths.ensures (raw_decides (raw_view c.of_truth-own.result) (raw_view c.args.value.now)) in
    has_kept c.args.column.now c.args.i c.of_truth-own.result c.args.value.now _ stands.0 c.requires.fit stands.1 same

pub has_at-returns-in-Numbers : goal.has_at-returns-in-Numbers
has_at-returns-in-Numbers t c =
    let rows : numbers_vals c.in-Numbers.numbers.value ≡ c.args.column.now.rows = ap (cell_rows c.args.column.now.ty) (sym c.in-Numbers.is) ∙ c.cells.ensures.rows in
    let parts : AreNumbersOf c.args.column.now.ty c.in-Numbers.numbers.value = subst (ArePartsOf c.args.column.now.ty) c.in-Numbers.is c.cells.ensures.parts in
    let read = c.number_at.ensures ∙ ap (λ (ns : NumberList). get_or ns.numbers c.args.i None) c.numbers_in.ensures in
    let stands = number_stands c.args.column.now c.in-Numbers.numbers.value c.args.i c.number_at.result c.of_number-own.result parts rows read c.requires.row c.of_number-own.ensures.value c.of_number-own.ensures.fit in
    let same : Decides c.eq-in-Numbers.result (raw_view c.of_number-own.result ≡ raw_view c.args.value.now) = rw c.eq-in-Numbers.ensures (raw_decides (raw_view c.of_number-own.result) (raw_view c.args.value.now)) in
    has_kept c.args.column.now c.args.i c.of_number-own.result c.args.value.now _ stands.0 c.requires.fit stands.1 same

pub has_at-is_hidden-requires : goal.has_at-is_hidden-requires
has_at-is_hidden-requires t c =
    let rows : zip_rows masked c.in-Masked.column.value.rows (vals_of c.in-Masked.nulls.value) ≡ c.args.column.now.rows = ap (cell_rows c.args.column.now.ty) (sym c.in-Masked.is) ∙ c.cells.ensures.rows in
    let parts : AreMaskedOf c.args.column.now.ty c.in-Masked.column.value c.in-Masked.nulls.value = subst (ArePartsOf c.args.column.now.ty) c.in-Masked.is c.cells.ensures.parts in
    omega (arith, masked_truths c.args.column.now c.in-Masked.column.value c.in-Masked.nulls.value parts rows, c.requires.row)

pub has_at-returns-then-is_hidden : goal.has_at-returns-then-is_hidden
has_at-returns-then-is_hidden t c =
    let rows : zip_rows masked c.in-Masked.column.value.rows (vals_of c.in-Masked.nulls.value) ≡ c.args.column.now.rows = ap (cell_rows c.args.column.now.ty) (sym c.in-Masked.is) ∙ c.cells.ensures.rows in
    let parts : AreMaskedOf c.args.column.now.ty c.in-Masked.column.value c.in-Masked.nulls.value = subst (ArePartsOf c.args.column.now.ty) c.in-Masked.is c.cells.ensures.parts in
    let told : c.is_hidden.result ≡ is_true (get_or c.in-Masked.nulls.value c.args.i None) = c.is_hidden.ensures in
    has_null c.args.column.now c.args.i c.args.value.now _ c.requires.fit (masked_null c.args.column.now c.in-Masked.column.value c.in-Masked.nulls.value c.args.i _ parts rows c.requires.row told c.if-is_hidden.true) c.is_null_value.ensures

pub has_at-has_at-requires : goal.has_at-has_at-requires
has_at-has_at-requires t c =
    let rows : zip_rows masked c.in-Masked.column.value.rows (vals_of c.in-Masked.nulls.value) ≡ c.args.column.now.rows = ap (cell_rows c.args.column.now.ty) (sym c.in-Masked.is) ∙ c.cells.ensures.rows in
    let parts : AreMaskedOf c.args.column.now.ty c.in-Masked.column.value c.in-Masked.nulls.value = subst (ArePartsOf c.args.column.now.ty) c.in-Masked.is c.cells.ensures.parts in
    let same : c.column_in.result.now ≡ c.in-Masked.column.value = c.column_in.ensures in
    let below : size_of c.column_in.result.now.ty < size_of c.args.column.now.ty = omega (arith, size_masked c.args.column.now.ty c.in-Masked.column.value c.in-Masked.nulls.value parts, ap (λ (d : Column). size_of d.ty) same) in
    let fit = value_within c.args.column.now.ty c.in-Masked.column.value.ty c.args.value.now c.is_null_value-in-Masked.result parts.whole c.requires.fit c.is_null_value-in-Masked.ensures c.if-not-is_null_value.true in (
      omega (arith, below, c.decreases),
      (
        subst (λ (d : Column). c.args.i < length d.rows) (sym same) (omega (arith, masked_length c.args.column.now c.in-Masked.column.value c.in-Masked.nulls.value parts rows, c.requires.row)),
        subst (λ (d : Column). fits (raw_view c.args.value.now) d.ty ≡ true) (sym same) fit,
      ),
    )

pub has_at-returns-then-not-is_null_value : goal.has_at-returns-then-not-is_null_value
has_at-returns-then-not-is_null_value t c =
    let rows : zip_rows masked c.in-Masked.column.value.rows (vals_of c.in-Masked.nulls.value) ≡ c.args.column.now.rows = ap (cell_rows c.args.column.now.ty) (sym c.in-Masked.is) ∙ c.cells.ensures.rows in
    let parts : AreMaskedOf c.args.column.now.ty c.in-Masked.column.value c.in-Masked.nulls.value = subst (ArePartsOf c.args.column.now.ty) c.in-Masked.is c.cells.ensures.parts in
    let told : c.is_hidden.result ≡ is_true (get_or c.in-Masked.nulls.value c.args.i None) = c.is_hidden.ensures in
    has_within c.args.column.now c.in-Masked.column.value c.args.i c.args.value.now _ parts.whole (masked_own c.args.column.now c.in-Masked.column.value c.in-Masked.nulls.value c.args.i _ parts rows c.requires.row told c.if-is_hidden.false) (subst (λ (d : Column). Decides c.has_at.result (HasAt c.args.i d c.args.value.now)) c.column_in.ensures c.has_at.ensures)

pub has_at-returns-else-not-is_null_value : goal.has_at-returns-else-not-is_null_value
has_at-returns-else-not-is_null_value t c =
    let rows : zip_rows masked c.in-Masked.column.value.rows (vals_of c.in-Masked.nulls.value) ≡ c.args.column.now.rows = ap (cell_rows c.args.column.now.ty) (sym c.in-Masked.is) ∙ c.cells.ensures.rows in
    let parts : AreMaskedOf c.args.column.now.ty c.in-Masked.column.value c.in-Masked.nulls.value = subst (ArePartsOf c.args.column.now.ty) c.in-Masked.is c.cells.ensures.parts in
    let told : c.is_hidden.result ≡ is_true (get_or c.in-Masked.nulls.value c.args.i None) = c.is_hidden.ensures in
    let within : c.args.i < length c.in-Masked.column.value.rows = omega (arith, masked_length c.args.column.now c.in-Masked.column.value c.in-Masked.nulls.value parts rows, c.requires.row) in
    let own = masked_own c.args.column.now c.in-Masked.column.value c.in-Masked.nulls.value c.args.i _ parts rows c.requires.row told c.if-is_hidden.false in
    has_no_null c.args.column.now c.in-Masked.column.value c.args.i c.args.value.now _ parts.apart parts.fit within own c.requires.fit c.is_null_value-in-Masked.ensures c.if-not-is_null_value.false

use Rattle.std.proofs.Common.{None, ◌≡◌, true, ap, sym, ◌∙◌, subst, get_or, length, arith}
use Rattle.vx_dtype.specs.Fits.{fits}
use Rattle.vx_dtype.specs.RawViews.{raw_view}
use Rattle.vx_column.specs.Columns.{Column, row_at, seen, seen_rows, values_fit, masked, zip_rows}
use Rattle.vx_column.specs.Cells.{cell_rows, AreMaskedOf, ArePartsOf}
use Rattle.vx_column.specs.ColumnParts.{AreTruthsOf}
use Rattle.vx_column.proofs.CellLemmas.{values_row, values_fit_at}
use Rattle.vx_words.specs.Truths.{vals_of}
use Rattle.vx_column.proofs.TruthLemmas.{truth_stands}
use Rattle.vx_column.specs.ColumnParts.{AreNumbersOf}
use Rattle.vx_column.specs.PlainValues.{numbers_vals}
use Rattle.vx_column.proofs.NumberLemmas.{number_stands}
use Rattle.vx_numbers.specs.Numbers.{NumberList}
use Rattle.vx_column.proofs.MaskedLemmas.{masked_truths, masked_length, masked_null, masked_own, inner_fits, inner_seen}
use Rattle.vx_column.proofs.columns.ColumnRef.value_at.Goals as goal

pub returns-in-Rows-clause-value : goal.returns-in-Rows-clause-value
returns-in-Rows-clause-value c =
    let rows : seen_rows c.args.self.now.ty c.in-Rows.rows.value.items ≡ c.args.self.now.rows = ap (cell_rows c.args.self.now.ty) (sym c.in-Rows.is) ∙ c.cells.ensures.rows in
    let read = c.index-values-i.is ∙ ap (λ xs. get_or xs c.args.i c.index-values-i.result) c.values_in-values.ensures in
    values_row c.args.self.now c.in-Rows.rows.value.items c.args.i _ rows c.requires.row read

pub returns-in-Rows-clause-fit : goal.returns-in-Rows-clause-fit
returns-in-Rows-clause-fit c =
    let rows : seen_rows c.args.self.now.ty c.in-Rows.rows.value.items ≡ c.args.self.now.rows = ap (cell_rows c.args.self.now.ty) (sym c.in-Rows.is) ∙ c.cells.ensures.rows in
    let fit : values_fit c.args.self.now.ty c.in-Rows.rows.value.items ≡ true = (subst (ArePartsOf c.args.self.now.ty) c.in-Rows.is c.cells.ensures.parts).fit in
    let read = c.index-values-i.is ∙ ap (λ xs. get_or xs c.args.i c.index-values-i.result) c.values_in-values.ensures in
    values_fit_at c.args.self.now c.in-Rows.rows.value.items c.args.i _ rows fit c.requires.row read

pub returns-in-Truths-clause-fit : goal.returns-in-Truths-clause-fit
returns-in-Truths-clause-fit c =
    let rows : vals_of c.in-Truths.truths.value ≡ c.args.self.now.rows = ap (cell_rows c.args.self.now.ty) (sym c.in-Truths.is) ∙ c.cells.ensures.rows in
    let parts : AreTruthsOf c.args.self.now.ty c.in-Truths.truths.value = subst (ArePartsOf c.args.self.now.ty) c.in-Truths.is c.cells.ensures.parts in
    let read = c.truth_at.ensures ∙ ap (λ ts. get_or ts c.args.i None) c.truths_in.ensures in
    (truth_stands c.args.self.now c.in-Truths.truths.value c.args.i c.truth_at.result c.of_truth.result parts rows read c.requires.row c.of_truth.ensures.value c.of_truth.ensures.fit).0

pub returns-in-Numbers-clause-value : goal.returns-in-Numbers-clause-value
returns-in-Numbers-clause-value c =
    let rows : numbers_vals c.in-Numbers.numbers.value ≡ c.args.self.now.rows = ap (cell_rows c.args.self.now.ty) (sym c.in-Numbers.is) ∙ c.cells.ensures.rows in
    let parts : AreNumbersOf c.args.self.now.ty c.in-Numbers.numbers.value = subst (ArePartsOf c.args.self.now.ty) c.in-Numbers.is c.cells.ensures.parts in
    let read = c.number_at.ensures ∙ ap (λ (ns : NumberList). get_or ns.numbers c.args.i None) c.numbers_in.ensures in
    (number_stands c.args.self.now c.in-Numbers.numbers.value c.args.i c.number_at.result c.of_number.result parts rows read c.requires.row c.of_number.ensures.value c.of_number.ensures.fit).1

pub returns-in-Numbers-clause-fit : goal.returns-in-Numbers-clause-fit
returns-in-Numbers-clause-fit c =
    let rows : numbers_vals c.in-Numbers.numbers.value ≡ c.args.self.now.rows = ap (cell_rows c.args.self.now.ty) (sym c.in-Numbers.is) ∙ c.cells.ensures.rows in
    let parts : AreNumbersOf c.args.self.now.ty c.in-Numbers.numbers.value = subst (ArePartsOf c.args.self.now.ty) c.in-Numbers.is c.cells.ensures.parts in
    let read = c.number_at.ensures ∙ ap (λ (ns : NumberList). get_or ns.numbers c.args.i None) c.numbers_in.ensures in
    (number_stands c.args.self.now c.in-Numbers.numbers.value c.args.i c.number_at.result c.of_number.result parts rows read c.requires.row c.of_number.ensures.value c.of_number.ensures.fit).0

pub is_hidden-requires : goal.is_hidden-requires
is_hidden-requires c =
    let rows : zip_rows masked c.in-Masked.column.value.rows (vals_of c.in-Masked.nulls.value) ≡ c.args.self.now.rows = ap (cell_rows c.args.self.now.ty) (sym c.in-Masked.is) ∙ c.cells.ensures.rows in
    let parts : AreMaskedOf c.args.self.now.ty c.in-Masked.column.value c.in-Masked.nulls.value = subst (ArePartsOf c.args.self.now.ty) c.in-Masked.is c.cells.ensures.parts in
    omega (arith, masked_truths c.args.self.now c.in-Masked.column.value c.in-Masked.nulls.value parts rows, c.requires.row)

pub kept_at-requires-clause-row : goal.kept_at-requires-clause-row
kept_at-requires-clause-row c =
    let rows : zip_rows masked c.in-Masked.column.value.rows (vals_of c.in-Masked.nulls.value) ≡ c.args.self.now.rows = ap (cell_rows c.args.self.now.ty) (sym c.in-Masked.is) ∙ c.cells.ensures.rows in
    let parts : AreMaskedOf c.args.self.now.ty c.in-Masked.column.value c.in-Masked.nulls.value = subst (ArePartsOf c.args.self.now.ty) c.in-Masked.is c.cells.ensures.parts in
    omega (arith, masked_length c.args.self.now c.in-Masked.column.value c.in-Masked.nulls.value parts rows, ap (λ (d : Column). length d.rows) c.column_in.ensures, c.requires.row)

pub returns-then-is_hidden-clause-value : goal.returns-then-is_hidden-clause-value
returns-then-is_hidden-clause-value c =
    let rows : zip_rows masked c.in-Masked.column.value.rows (vals_of c.in-Masked.nulls.value) ≡ c.args.self.now.rows = ap (cell_rows c.args.self.now.ty) (sym c.in-Masked.is) ∙ c.cells.ensures.rows in
    let parts : AreMaskedOf c.args.self.now.ty c.in-Masked.column.value c.in-Masked.nulls.value = subst (ArePartsOf c.args.self.now.ty) c.in-Masked.is c.cells.ensures.parts in
    let null = c.is_hidden.ensures in
    c.null.ensures.value c.args.self.now.ty ∙ sym (masked_null c.args.self.now c.in-Masked.column.value c.in-Masked.nulls.value c.args.i _ parts rows c.requires.row null c.if-is_hidden.true)

pub returns-else-is_hidden-clause-value : goal.returns-else-is_hidden-clause-value
returns-else-is_hidden-clause-value c =
    let rows : zip_rows masked c.in-Masked.column.value.rows (vals_of c.in-Masked.nulls.value) ≡ c.args.self.now.rows = ap (cell_rows c.args.self.now.ty) (sym c.in-Masked.is) ∙ c.cells.ensures.rows in
    let parts : AreMaskedOf c.args.self.now.ty c.in-Masked.column.value c.in-Masked.nulls.value = subst (ArePartsOf c.args.self.now.ty) c.in-Masked.is c.cells.ensures.parts in
    let null = c.is_hidden.ensures in
    let own : seen c.in-Masked.column.value.ty c.kept_at.result.now ≡ row_at c.in-Masked.column.value c.args.i = subst (λ (d : Column). seen d.ty c.kept_at.result.now ≡ row_at d c.args.i) c.column_in.ensures c.kept_at.ensures.value in
    inner_seen c.args.self.now.ty c.in-Masked.column.value c.in-Masked.nulls.value _ parts ∙ own ∙ sym (masked_own c.args.self.now c.in-Masked.column.value c.in-Masked.nulls.value c.args.i _ parts rows c.requires.row null c.if-is_hidden.false)

pub returns-else-is_hidden-clause-fit : goal.returns-else-is_hidden-clause-fit
returns-else-is_hidden-clause-fit c =
    let parts : AreMaskedOf c.args.self.now.ty c.in-Masked.column.value c.in-Masked.nulls.value = subst (ArePartsOf c.args.self.now.ty) c.in-Masked.is c.cells.ensures.parts in
    inner_fits c.args.self.now.ty c.in-Masked.column.value c.in-Masked.nulls.value _ parts (ap (λ (d : Column). fits (raw_view c.kept_at.result.now) d.ty) (sym c.column_in.ensures) ∙ c.kept_at.ensures.fit)

use Rattle.std.proofs.Common.{◌≡◌, None, true, ap, sym, ◌∙◌, subst, get_or, arith}
use Rattle.std.proofs.Math.ListN.{replicate}
use Rattle.vx_dtype.specs.TypeRules.{field_names, fields_of}
use Rattle.vx_dtype.specs.Logic.{is_null3}
use Rattle.vx_dtype.specs.Fits.{fits}
use Rattle.vx_dtype.specs.RawViews.{raw_view}
use Rattle.vx_column.specs.Columns.{seen, seen_rows, rows_fit, masked, zip_rows}
use Rattle.vx_column.specs.Cells.{cell_rows, structs_of, AreMaskedOf, ArePartsOf, AreValuesOf}
use Rattle.vx_words.specs.Truths.{vals_of}
use Rattle.vx_column.proofs.CellLemmas.{constant_row, structs_row, valid_kept}
use Rattle.vx_numbers.specs.Numbers.{NumberList}
use Rattle.vx_column.specs.PlainValues.{numbers_vals}
use Rattle.vx_column.proofs.NumberLemmas.{number_valid}
use Rattle.vx_column.proofs.MaskedLemmas.{masked_truths, masked_valid, row_fits}
use Rattle.vx_column.proofs.FitLemmas.{rows_fit_seen, never_null}
use Rattle.vx_column.proofs.columns.ColumnRef.is_valid.Goals as goal

pub returns-in-Constant : goal.returns-in-Constant
returns-in-Constant c =
    let rows : replicate c.in-Constant.len (seen c.args.self.now.ty c.in-Constant.value) ≡ c.args.self.now.rows = ap (cell_rows c.args.self.now.ty) (sym c.in-Constant.is) ∙ c.cells.ensures.rows in
    let fit : fits (raw_view c.in-Constant.value) c.args.self.now.ty ≡ true = subst (ArePartsOf c.args.self.now.ty) c.in-Constant.is c.cells.ensures.parts in
    valid_kept c.args.self.now c.args.i c.in-Constant.value _ fit (constant_row c.args.self.now _ _ _ rows c.requires) c.is_null_value.ensures

pub returns-in-Rows : goal.returns-in-Rows
returns-in-Rows c =
    let parts : AreValuesOf c.args.self.now.ty c.in-Rows.field-0.value.items = subst (ArePartsOf c.args.self.now.ty) c.in-Rows.is c.cells.ensures.parts in
    let rows : seen_rows c.args.self.now.ty c.in-Rows.field-0.value.items ≡ c.args.self.now.rows = ap (cell_rows c.args.self.now.ty) (sym c.in-Rows.is) ∙ c.cells.ensures.rows in
    let fit = ap (rows_fit c.args.self.now.ty) (sym rows) ∙ rows_fit_seen c.args.self.now.ty c.in-Rows.field-0.value.items parts.fit in
    never_null c.args.self.now.ty _ parts.whole (row_fits c.args.self.now.ty c.args.self.now.rows c.args.i fit c.requires)

pub returns-in-Columns : goal.returns-in-Columns
returns-in-Columns c =
    let rows : structs_of (field_names (fields_of c.args.self.now.ty)) c.in-Columns.fields.value.items c.in-Columns.len ≡ c.args.self.now.rows = ap (cell_rows c.args.self.now.ty) (sym c.in-Columns.is) ∙ c.cells.ensures.rows in
    ap is_null3 (sym (structs_row c.args.self.now _ _ _ c.args.i rows c.requires))

pub returns-in-Numbers : goal.returns-in-Numbers
returns-in-Numbers c =
    let rows : numbers_vals c.in-Numbers.numbers.value ≡ c.args.self.now.rows = ap (cell_rows c.args.self.now.ty) (sym c.in-Numbers.is) ∙ c.cells.ensures.rows in
    let read = c.number_at.ensures ∙ ap (λ (ns : NumberList). get_or ns.numbers c.args.i None) c.numbers_in.ensures in
    number_valid c.args.self.now c.in-Numbers.numbers.value c.args.i c.number_at.result _ rows read c.is_some-in-Numbers.ensures

pub is_hidden-requires : goal.is_hidden-requires
is_hidden-requires c =
    let rows : zip_rows masked c.in-Masked.column.value.rows (vals_of c.in-Masked.nulls.value) ≡ c.args.self.now.rows = ap (cell_rows c.args.self.now.ty) (sym c.in-Masked.is) ∙ c.cells.ensures.rows in
    let parts : AreMaskedOf c.args.self.now.ty c.in-Masked.column.value c.in-Masked.nulls.value = subst (ArePartsOf c.args.self.now.ty) c.in-Masked.is c.cells.ensures.parts in
    omega (arith, masked_truths c.args.self.now c.in-Masked.column.value c.in-Masked.nulls.value parts rows, c.requires)

pub returns-in-Masked : goal.returns-in-Masked
returns-in-Masked c =
    let rows : zip_rows masked c.in-Masked.column.value.rows (vals_of c.in-Masked.nulls.value) ≡ c.args.self.now.rows = ap (cell_rows c.args.self.now.ty) (sym c.in-Masked.is) ∙ c.cells.ensures.rows in
    let parts : AreMaskedOf c.args.self.now.ty c.in-Masked.column.value c.in-Masked.nulls.value = subst (ArePartsOf c.args.self.now.ty) c.in-Masked.is c.cells.ensures.parts in
    let null = c.is_hidden.ensures in
    masked_valid c.args.self.now c.in-Masked.column.value c.in-Masked.nulls.value c.args.i _ parts rows c.requires null

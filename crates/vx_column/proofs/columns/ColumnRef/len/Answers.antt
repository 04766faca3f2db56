use Rattle.std.proofs.Common.{◌≡◌, ap, sym, ◌∙◌, subst, length}
use Rattle.vx_dtype.specs.TypeRules.{field_names, fields_of}
use Rattle.vx_words.specs.Truths.{vals_of}
use Rattle.vx_column.specs.Columns.{masked, zip_rows}
use Rattle.vx_column.specs.Cells.{cell_rows, structs_of, AreMaskedOf, ArePartsOf}
use Rattle.vx_column.proofs.CellLemmas.{structs_length}
use Rattle.vx_column.proofs.MaskedLemmas.{masked_truths}
use Rattle.vx_column.proofs.columns.ColumnRef.len.Goals as goal

pub returns-in-Columns : goal.returns-in-Columns
returns-in-Columns c =
    let rows : structs_of (field_names (fields_of c.args.self.now.ty)) c.in-Columns.fields.value.items c.in-Columns.len ≡ c.args.self.now.rows = ap (cell_rows c.args.self.now.ty) (sym c.in-Columns.is) ∙ c.cells.ensures.rows in
    structs_length c.args.self.now _ _ _ rows

pub returns-in-Masked : goal.returns-in-Masked
returns-in-Masked c =
    let rows : zip_rows masked c.in-Masked.column.value.rows (vals_of c.in-Masked.nulls.value) ≡ c.args.self.now.rows = ap (cell_rows c.args.self.now.ty) (sym c.in-Masked.is) ∙ c.cells.ensures.rows in
    let parts : AreMaskedOf c.args.self.now.ty c.in-Masked.column.value c.in-Masked.nulls.value = subst (ArePartsOf c.args.self.now.ty) c.in-Masked.is c.cells.ensures.parts in
    c.len-in-Masked.ensures ∙ ap length c.truths_in-in-Masked.ensures ∙ masked_truths c.args.self.now c.in-Masked.column.value c.in-Masked.nulls.value parts rows

use Rattle.std.proofs.Common.{◌≡◌, ap, sym, ◌∙◌, subst}
use Rattle.vx_dtype.specs.TypeRules.{is_nullable, nullability_of}
use Rattle.vx_words.specs.Truths.{vals_of}
use Rattle.vx_column.specs.Columns.{masked, zip_rows}
use Rattle.vx_column.specs.Cells.{cell_rows, AreFieldsOf, AreMaskedOf, AreValuesOf, ArePartsOf}
use Rattle.vx_column.specs.ColumnParts.{AreTruthsOf, AreNumbersOf}
use Rattle.vx_column.proofs.MaskedLemmas.{masked_nulls, masked_nullable}
use Rattle.vx_column.proofs.columns.ColumnRef.parts.Goals as goal

pub returns-in-Truths-clause-kind : goal.returns-in-Truths-clause-kind
returns-in-Truths-clause-kind c =
    let parts : AreTruthsOf c.args.self.now.ty c.in-Truths.truths.value = subst (ArePartsOf c.args.self.now.ty) c.in-Truths.is c.cells.ensures.parts in
    subst (AreTruthsOf c.args.self.now.ty) (sym c.truths_in.ensures) parts

pub returns-in-Numbers-clause-kind : goal.returns-in-Numbers-clause-kind
returns-in-Numbers-clause-kind c =
    let parts : AreNumbersOf c.args.self.now.ty c.in-Numbers.numbers.value = subst (ArePartsOf c.args.self.now.ty) c.in-Numbers.is c.cells.ensures.parts in
    subst (AreNumbersOf c.args.self.now.ty) (sym c.numbers_in.ensures) parts

pub returns-in-Rows-clause-kind : goal.returns-in-Rows-clause-kind
returns-in-Rows-clause-kind c =
    let parts : AreValuesOf c.args.self.now.ty c.in-Rows.field-0.value.items = subst (ArePartsOf c.args.self.now.ty) c.in-Rows.is c.cells.ensures.parts in
    parts.whole

pub returns-in-Columns-clause-kind : goal.returns-in-Columns-clause-kind
returns-in-Columns-clause-kind c =
    let parts : AreFieldsOf c.args.self.now.ty c.in-Columns.fields.value.items c.in-Columns.len = subst (ArePartsOf c.args.self.now.ty) c.in-Columns.is c.cells.ensures.parts in
    ap (λ t. is_nullable (nullability_of t)) parts.shape

pub returns-in-Masked-clause-rows : goal.returns-in-Masked-clause-rows
returns-in-Masked-clause-rows c =
    let rows : zip_rows masked c.in-Masked.column.value.rows (vals_of c.in-Masked.nulls.value) ≡ c.args.self.now.rows = ap (cell_rows c.args.self.now.ty) (sym c.in-Masked.is) ∙ c.cells.ensures.rows in
    let parts : AreMaskedOf c.args.self.now.ty c.in-Masked.column.value c.in-Masked.nulls.value = subst (ArePartsOf c.args.self.now.ty) c.in-Masked.is c.cells.ensures.parts in
    masked_nulls c.args.self.now c.in-Masked.column.value c.in-Masked.nulls.value c.truths_in-in-Masked.result.now parts rows c.truths_in-in-Masked.ensures

pub returns-in-Masked-clause-kind : goal.returns-in-Masked-clause-kind
returns-in-Masked-clause-kind c =
    let parts : AreMaskedOf c.args.self.now.ty c.in-Masked.column.value c.in-Masked.nulls.value = subst (ArePartsOf c.args.self.now.ty) c.in-Masked.is c.cells.ensures.parts in
    masked_nullable c.args.self.now.ty c.in-Masked.column.value c.in-Masked.nulls.value parts

use Rattle.std.proofs.Common.{◌≡◌, ap, sym, ◌∙◌, subst, Ok}
use Rattle.vx_words.specs.Truths.{vals_of}
use Rattle.vx_dtype.specs.declared.Nullability.TheVariants.{Nullable}
use Rattle.vx_dtype.specs.TypeRules.{with_nullability}
use Rattle.vx_column.specs.StructColumns.{projected_column}
use Rattle.vx_column.specs.Columns.{column, masked, zip_rows}
use Rattle.vx_column.specs.Cells.{cell_rows, AreMaskedOf, ArePartsOf}
use Rattle.vx_column.proofs.MaskedParts.{masked_project}
use Rattle.vx_column.proofs.columns.ColumnRef.project.Goals as goal

pub returns-in_ok-of_masked-in-Masked : goal.returns-in_ok-of_masked-in-Masked
returns-in_ok-of_masked-in-Masked c =
    let rows : zip_rows masked c.in-Masked.column.value.rows (vals_of c.in-Masked.nulls.value) ≡ c.args.self.now.rows = ap (cell_rows c.args.self.now.ty) (sym c.in-Masked.is) ∙ c.cells.ensures.rows in
    let parts : AreMaskedOf c.args.self.now.ty c.in-Masked.column.value c.in-Masked.nulls.value = subst (ArePartsOf c.args.self.now.ty) c.in-Masked.is c.cells.ensures.parts in
    let inner : Ok c.in_ok-inner-in-Masked.inner ≡ projected_column c.args.names.now c.in-Masked.column.value = c.in_ok-inner-in-Masked.ensures ∙ ap (projected_column c.args.names.now) c.column_in.ensures in
    let made = c.in_ok-of_masked-in-Masked.ensures ∙ ap (λ ts. column (with_nullability c.in_ok-inner-in-Masked.inner.ty Nullable) (zip_rows masked c.in_ok-inner-in-Masked.inner.rows (vals_of ts))) c.in_ok-clone-in-Masked.ensures.cases in
    masked_project c.args.names.now c.args.self.now c.in-Masked.column.value c.in_ok-inner-in-Masked.inner c.in_ok-of_masked-in-Masked.field-0 c.in-Masked.nulls.value parts rows inner made

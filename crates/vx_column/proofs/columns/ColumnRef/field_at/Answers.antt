use Rattle.std.proofs.Common.{◌≡◌, ap, sym, ◌∙◌, subst, Ok}
use Rattle.std.specs.List.{position}
use Rattle.std.specs.Str.{bytes_eq}
use Rattle.vx_dtype.specs.TypeRules.{field_names}
use Rattle.vx_words.specs.Truths.{vals_of}
use Rattle.vx_column.specs.Answers.{field_column}
use Rattle.vx_column.specs.Columns.{masked, zip_rows}
use Rattle.vx_column.specs.Cells.{cell_rows, AreMaskedOf, ArePartsOf}
use Rattle.vx_column.proofs.MaskedParts.{masked_field, masked_fields}
use Rattle.vx_column.proofs.columns.ColumnRef.field_at.Goals as goal

pub part_at-requires : goal.part_at-requires
part_at-requires c =
    let parts : AreMaskedOf c.args.self.now.ty c.in-Masked.column.value c.in-Masked.nulls.value = subst (ArePartsOf c.args.self.now.ty) c.in-Masked.is c.cells.ensures.parts in
    let within = masked_fields c.args.self.now.ty c.in-Masked.column.value c.in-Masked.nulls.value parts in
    rw c.column_in.ensures (ap (λ fs. position (bytes_eq c.args.name.now) (field_names fs)) (sym within) ∙ c.requires)

pub returns-in_ok-masked_by-in-Masked : goal.returns-in_ok-masked_by-in-Masked
returns-in_ok-masked_by-in-Masked c =
    let rows : zip_rows masked c.in-Masked.column.value.rows (vals_of c.in-Masked.nulls.value) ≡ c.args.self.now.rows = ap (cell_rows c.args.self.now.ty) (sym c.in-Masked.is) ∙ c.cells.ensures.rows in
    let parts : AreMaskedOf c.args.self.now.ty c.in-Masked.column.value c.in-Masked.nulls.value = subst (ArePartsOf c.args.self.now.ty) c.in-Masked.is c.cells.ensures.parts in
    let inner : Ok c.in_ok-inner-in-Masked.inner ≡ field_column c.args.name.now c.in-Masked.column.value = c.in_ok-inner-in-Masked.ensures ∙ ap (field_column c.args.name.now) c.column_in.ensures in
    let made = c.in_ok-masked_by-in-Masked.ensures.rows ∙ ap (λ ts. zip_rows masked c.in_ok-inner-in-Masked.inner.rows (vals_of ts)) c.in_ok-clone-in-Masked.ensures.cases in
    masked_field c.args.name.now c.args.self.now c.in-Masked.column.value c.in_ok-inner-in-Masked.inner c.in_ok-masked_by-in-Masked.field-0 c.in-Masked.nulls.value parts rows inner c.in_ok-masked_by-in-Masked.ensures.dtype made

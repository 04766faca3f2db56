use Rattle.std.proofs.Common.{◌≡◌, arith, length, ap, sym, ◌∙◌, subst}
use Rattle.std.specs.Simd.Lanes.{zip2}
use Rattle.vx_dtype.specs.declared.Nullability.TheVariants.{Nullable}
use Rattle.vx_dtype.specs.TypeRules.{with_nullability}
use Rattle.vx_dtype.specs.Logic.{or3}
use Rattle.vx_words.specs.Truths.{vals_of}
use Rattle.vx_column.specs.Columns.{Column, column, masked, zip_rows}
use Rattle.vx_column.specs.Cells.{cell_rows, AreMaskedOf, ArePartsOf}
use Rattle.vx_column.proofs.StructLemmas.{if_ok_map}
use Rattle.vx_column.proofs.MaskedLemmas.{masked_truths}
use Rattle.vx_column.proofs.MaskedParts.{either_rows, either_length}
use Rattle.vx_column.proofs.masks.masked_again.Goals as goal

pub or-requires : goal.or-requires
or-requires c =
    let rows : zip_rows masked c.in-Masked.column.value.rows (vals_of c.in-Masked.own.value) ≡ c.args.c.now.rows = ap (cell_rows c.args.c.now.ty) (sym c.in-Masked.is) ∙ c.cells.ensures.rows in
    let parts : AreMaskedOf c.args.c.now.ty c.in-Masked.column.value c.in-Masked.own.value = subst (ArePartsOf c.args.c.now.ty) c.in-Masked.is c.cells.ensures.parts in
    let own = masked_truths c.args.c.now c.in-Masked.column.value c.in-Masked.own.value parts rows in
    omega (arith, own, c.requires.lengths, ap length c.truths_in.ensures, ap length c.truths_in-in-Masked.ensures)

pub of_masked-requires-clause-lengths : goal.of_masked-requires-clause-lengths
of_masked-requires-clause-lengths c =
    let rows : zip_rows masked c.in-Masked.column.value.rows (vals_of c.in-Masked.own.value) ≡ c.args.c.now.rows = ap (cell_rows c.args.c.now.ty) (sym c.in-Masked.is) ∙ c.cells.ensures.rows in
    let parts : AreMaskedOf c.args.c.now.ty c.in-Masked.column.value c.in-Masked.own.value = subst (ArePartsOf c.args.c.now.ty) c.in-Masked.is c.cells.ensures.parts in
    let own = masked_truths c.args.c.now c.in-Masked.column.value c.in-Masked.own.value parts rows in
    let same : length c.in-Masked.own.value ≡ length c.args.nulls.value = own ∙ sym c.requires.lengths in
    let either = c.in_ok-either-in-Masked.ensures ∙ (λ j. zip2 or3 (vals_of (c.truths_in.ensures j)) (vals_of (c.truths_in-in-Masked.ensures j))) in
    let inner : c.in_ok-clone-in-Masked.field-0 ≡ c.in-Masked.column.value = c.in_ok-clone-in-Masked.ensures.cases ∙ c.column_in.ensures in
    ap length c.in_ok-new-in-Masked.ensures.ok ∙ either_length c.in-Masked.own.value c.args.nulls.value _ same either ∙ parts.lengths ∙ ap (λ (d : Column). length d.rows) (sym inner)

pub returns-in_ok-new-in-Masked : goal.returns-in_ok-new-in-Masked
returns-in_ok-new-in-Masked c =
    let rows : zip_rows masked c.in-Masked.column.value.rows (vals_of c.in-Masked.own.value) ≡ c.args.c.now.rows = ap (cell_rows c.args.c.now.ty) (sym c.in-Masked.is) ∙ c.cells.ensures.rows in
    let parts : AreMaskedOf c.args.c.now.ty c.in-Masked.column.value c.in-Masked.own.value = subst (ArePartsOf c.args.c.now.ty) c.in-Masked.is c.cells.ensures.parts in
    let either = c.in_ok-either-in-Masked.ensures ∙ (λ j. zip2 or3 (vals_of (c.truths_in.ensures j)) (vals_of (c.truths_in-in-Masked.ensures j))) in
    let inner : c.in_ok-clone-in-Masked.field-0 ≡ c.in-Masked.column.value = c.in_ok-clone-in-Masked.ensures.cases ∙ c.column_in.ensures in
    let again : zip_rows masked c.in_ok-clone-in-Masked.field-0.rows (vals_of c.in_ok-new-in-Masked.field-0.value) ≡ zip_rows masked c.args.c.now.rows (vals_of c.args.nulls.value) =
    (λ j. zip_rows masked (inner j).rows (vals_of (c.in_ok-new-in-Masked.ensures.ok j))) ∙ either_rows c.in-Masked.column.value.rows c.in-Masked.own.value c.args.nulls.value _ either ∙ ap (λ vs. zip_rows masked vs (vals_of c.args.nulls.value)) rows in
    let type : with_nullability c.in_ok-clone-in-Masked.field-0.ty Nullable ≡ c.args.c.now.ty = ap (λ (d : Column). with_nullability d.ty Nullable) inner ∙ sym parts.whole in
    if_ok_map _ _ c.of_masked-in-Masked.result (λ (x : Column) (h : x ≡ column (with_nullability c.in_ok-clone-in-Masked.field-0.ty Nullable) (zip_rows masked c.in_ok-clone-in-Masked.field-0.rows (vals_of c.in_ok-new-in-Masked.field-0.value))). h ∙ (λ j. column (type j) (again j))) c.of_masked-in-Masked.ensures

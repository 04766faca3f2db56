use Rattle.std.proofs.Common.{◌≡◌, ap, sym, ◌∙◌, length}
use Rattle.vx_dtype.specs.declared.Nullability.TheVariants.{Nullable}
use Rattle.vx_dtype.specs.TypeRules.{with_nullability}
use Rattle.vx_words.specs.Truths.{vals_of}
use Rattle.vx_column.specs.Columns.{Column, column, masked, zip_rows}
use Rattle.vx_column.proofs.StructLemmas.{if_ok_map}
use Rattle.vx_column.proofs.MaskedLemmas.{none_masked, none_number}
use Rattle.vx_column.proofs.reading.masked_nowhere.Goals as goal

pub of_masked-requires-clause-lengths : goal.of_masked-requires-clause-lengths
of_masked-requires-clause-lengths c =
    let none = c.in_ok-new.ensures.ok ∙ c.in_ok-nulls.ensures in
    none_number c.in_ok-new.field-0.value c.len.result _ none (c.len.ensures ∙ ap (λ (d : Column). length d.rows) (sym c.in_ok-clone.ensures.cases))

pub returns : goal.returns
returns c =
    let rows = c.args.c.now.rows in
    let none = c.in_ok-new.ensures.ok ∙ c.in_ok-nulls.ensures in
    let whole = none_masked rows c.in_ok-new.field-0.value c.len.result c.len.ensures none in
    let same = c.in_ok-clone.ensures.cases in
    if_ok_map _ _ c.of_masked-2.result (λ (x : Column) (h : x ≡ column (with_nullability c.in_ok-clone.field-0.ty Nullable) (zip_rows masked c.in_ok-clone.field-0.rows (vals_of c.in_ok-new.field-0.value))).
    h ∙ (λ j. column (with_nullability (same j).ty Nullable) (zip_rows masked (same j).rows (vals_of c.in_ok-new.field-0.value))) ∙ ap (column (with_nullability c.args.c.now.ty Nullable)) whole) c.of_masked-2.ensures

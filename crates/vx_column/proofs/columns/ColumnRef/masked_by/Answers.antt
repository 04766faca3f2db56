use Rattle.std.proofs.Common.{◌≡◌, true, ap, sym, ◌∙◌}
use Rattle.std.specs.Simd.Lanes.{zip2}
use Rattle.vx_dtype.specs.declared.Nullability.TheVariants.{Nullable}
use Rattle.vx_dtype.specs.TypeRules.{is_bool_ty, nullability_of}
use Rattle.vx_dtype.specs.TypeViews.{type_view}
use Rattle.vx_words.specs.Truths.{vals_of, hidden_if}
use Rattle.vx_numbers.specs.Numbers.{number_list}
use Rattle.vx_column.specs.Columns.{Column, column}
use Rattle.vx_column.specs.PlainValues.{numbers_vals}
use Rattle.vx_column.proofs.FitLemmas.{nullability_with}
use Rattle.vx_column.proofs.StructLemmas.{if_ok_map}
use Rattle.vx_column.proofs.NumberLemmas.{masked_numbers_of, masked_rows}
use Rattle.vx_column.proofs.TruthLemmas.{masked_truths_rows, nullable_truths_of}
use Rattle.vx_column.proofs.columns.ColumnRef.masked_by.Goals as goal

pub of_truths-requires : goal.of_truths-requires
of_truths-requires c =
    let type : type_view c.in_ok-dtype.dtype ≡ c.in_ok-nullable.nullable.ty = c.in_ok-dtype.ensures.cases ∙ c.dtype-2.ensures.shown in
    let nullable : nullability_of c.in_ok-nullable.nullable.ty ≡ Nullable = ap (λ (d : Column). nullability_of d.ty) c.in_ok-nullable.ensures ∙ nullability_with c.args.self.now.ty Nullable in
    let kind : is_bool_ty c.in_ok-nullable.nullable.ty ≡ true = ap is_bool_ty (sym type ∙ ap type_view c.in-Bool.is) in
    nullable_truths_of c.in_ok-nullable.nullable.ty _ c.in_ok-masked-in-Bool.masked type nullable kind

pub returns-in_ok-masked-in-Bool-clause-rows : goal.returns-in_ok-masked-in-Bool-clause-rows
returns-in_ok-masked-in-Bool-clause-rows c =
    let rows : vals_of c.in_ok-own-in-Bool.own.value ≡ c.args.self.now.rows = c.in_ok-own-in-Bool.ensures.rows ∙ ap (λ (d : Column). d.rows) c.in_ok-nullable.ensures in
    let made = c.in_ok-masked-in-Bool.ensures ∙ (λ j. zip2 hidden_if (c.truths_in.ensures j) (c.truths_in-in-Bool.ensures j)) in
    let there = masked_truths_rows c.in_ok-own-in-Bool.own.value c.args.nulls.value c.in_ok-masked-in-Bool.masked c.args.self.now.rows rows made in
    if_ok_map _ _ c.of_truths.result (λ (x : Column) (h : x ≡ column (type_view c.in_ok-dtype.dtype) (vals_of c.in_ok-masked-in-Bool.masked)). ap (λ (d : Column). d.rows) h ∙ there) c.of_truths.ensures

pub of_numbers-requires : goal.of_numbers-requires
of_numbers-requires c =
    let t = c.in_ok-nullable.nullable.ty in
    let type : type_view c.in_ok-dtype.dtype ≡ c.in_ok-nullable.nullable.ty = c.in_ok-dtype.ensures.cases ∙ c.dtype-2.ensures.shown in
    let nullable : nullability_of c.in_ok-nullable.nullable.ty ≡ Nullable = ap (λ (d : Column). nullability_of d.ty) c.in_ok-nullable.ensures ∙ nullability_with c.args.self.now.ty Nullable in
    let made = c.in_ok-masked-in-Primitive.ensures ∙ (λ j. number_list (c.numbers_in.ensures j).ptype (zip2 hidden_if (c.numbers_in.ensures j).numbers (c.truths_in-in-Primitive.ensures j))) in
    masked_numbers_of t _ c.in_ok-own-in-Primitive.own.value _ c.args.nulls.value type nullable c.in_ok-own-in-Primitive.ensures.fit made

pub returns-in_ok-masked-in-Primitive-clause-rows : goal.returns-in_ok-masked-in-Primitive-clause-rows
returns-in_ok-masked-in-Primitive-clause-rows c =
    let rows : numbers_vals c.in_ok-own-in-Primitive.own.value ≡ c.args.self.now.rows = c.in_ok-own-in-Primitive.ensures.rows ∙ ap (λ (d : Column). d.rows) c.in_ok-nullable.ensures in
    let made = c.in_ok-masked-in-Primitive.ensures ∙ (λ j. number_list (c.numbers_in.ensures j).ptype (zip2 hidden_if (c.numbers_in.ensures j).numbers (c.truths_in-in-Primitive.ensures j))) in
    let there = masked_rows c.in_ok-own-in-Primitive.own.value c.in_ok-masked-in-Primitive.masked c.args.nulls.value c.args.self.now.rows rows made in
    if_ok_map _ _ c.of_numbers.result (λ (x : Column) (h : x ≡ column (type_view c.in_ok-dtype.dtype) (numbers_vals c.in_ok-masked-in-Primitive.masked)). ap (λ (d : Column). d.rows) h ∙ there) c.of_numbers.ensures

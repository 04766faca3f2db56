-- The column that values make where there are none.
use Rattle.std.proofs.Common.{◌≡◌, ap, ◌∙◌, true, subst, List, [], map, Result, Ok}
use Rattle.vx_dtype.specs.RawViews.{raw_view}
use Rattle.vx_dtype.specs.Types.{Ty}
use Rattle.vx_dtype.specs.TypeRules.{no_name_twice}
use Rattle.vx_dtype.specs.declared.values.ScalarValue.{ScalarValue}
use Rattle.vx_column.specs.declared.errors.ColumnError.{ColumnError}
use Rattle.vx_column.specs.declared.errors.ColumnError.TheVariants.{DuplicateField}
use Rattle.vx_column.specs.Columns.{Column, column}
use Rattle.vx_column.specs.Answers.{AnswersColumn, unless, column_of_raws}

no_raws : (t u : Ty) (xs : List ScalarValue) → t ≡ u → xs ≡ [] → no_name_twice u ≡ true → column_of_raws t (map raw_view xs) ≡ Ok (column u [])
no_raws t u xs same none once = (λ i. column_of_raws (same i) (map raw_view (none i))) ∙ ap (λ b. unless b DuplicateField (Ok (column u []))) once

-- what is answered for no values tells the column without rows
pub none_told : (t u : Ty) (xs : List ScalarValue) (answer : Result Column ColumnError) → t ≡ u → xs ≡ [] → no_name_twice u ≡ true
    → AnswersColumn answer (column_of_raws t (map raw_view xs)) → AnswersColumn answer (Ok (column u []))
none_told t u xs answer same none once h = subst (AnswersColumn answer) (no_raws t u xs same none once) h

-- an answer that tells a column is this column, where it is one
pub made_is : (answer : Result Column ColumnError) (told made : Column) → AnswersColumn answer (Ok told) → answer ≡ Ok made → made ≡ told
made_is answer told made h e =
    let both : AnswersColumn (Ok made) (Ok told) = subst (λ (a : Result Column ColumnError). AnswersColumn a (Ok told)) e h in
    cc

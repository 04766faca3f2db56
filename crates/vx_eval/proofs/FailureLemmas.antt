-- Refusals to make a column, where a typing rule refuses.
use Rattle.std.proofs.Common.{◌≡◌, ap, ◌∙◌, false, List, Result, Ok, Err}
use Rattle.std.specs.Prelude.{is_ok}
use Rattle.vx_dtype.specs.Types.{Ty}
use Rattle.vx_dtype.specs.Values.{Val}
use Rattle.vx_column.specs.Columns.{Column}
use Rattle.vx_column.specs.Answers.{AnswersColumn}
use Rattle.vx_column.specs.declared.errors.ColumnError.{ColumnError}
use Rattle.vx_column.specs.declared.errors.ColumnError.TheVariants.{NoMemory, WrongLength, WrongValue, DuplicateField, UnknownField, Overflow, BadCast}
use Rattle.vx_semantics.specs.Typing.{Refusal}
use Rattle.vx_eval.specs.Failures.{failure_of}
use Rattle.vx_eval.specs.Steps.{Makes}
use Rattle.vx_eval.specs.declared.errors.Failure.TheVariants as failures

-- where the rule refuses, a refusal of this kind is that failure
pub fails_as : (told : Result Ty Refusal) (rows : List Val) (e f : ColumnError) → failure_of f ≡ failures.Mistyped → is_ok told ≡ false → AnswersColumn (Err e) (Err f) → Makes told rows (Err (failure_of e))
fails_as told rows NoMemory f m h k = tt
fails_as told rows WrongLength f m h k = h
fails_as told rows WrongValue f m h k = h
fails_as told rows DuplicateField f m h k = h
fails_as told rows UnknownField f m h k = h
fails_as told rows Overflow f m h k =
    let same : Overflow ≡ f = cc in
    let no : failures.Overflow ≡ failures.Mistyped = ap failure_of same ∙ m in
    absurd cc
fails_as told rows BadCast f m h k =
    let same : BadCast ≡ f = cc in
    let no : failures.BadCast ≡ failures.Mistyped = ap failure_of same ∙ m in
    absurd cc

-- where there is a column, only memory can be wanting
pub fails_not : (told : Result Ty Refusal) (rows : List Val) (e : ColumnError) (c : Column) → AnswersColumn (Err e) (Ok c) → Makes told rows (Err (failure_of e))
fails_not told rows NoMemory c k = tt
fails_not told rows WrongLength c k = absurd cc
fails_not told rows WrongValue c k = absurd cc
fails_not told rows DuplicateField c k = absurd cc
fails_not told rows UnknownField c k = absurd cc
fails_not told rows Overflow c k = absurd cc
fails_not told rows BadCast c k = absurd cc

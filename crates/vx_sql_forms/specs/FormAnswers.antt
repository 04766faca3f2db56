-- What the calls that make the forms of SQL answer.
use Rattle.std.specs.Prelude.{◌≡◌, Result, Ok, Err}
use Rattle.vx_laws_sql.specs.Operands as sql
use Rattle.vx_sql_forms.specs.Views.{typed_view, mismatch_view}
use Rattle.vx_sql_forms.specs.declared.errors.FormError.{FormError}
use Rattle.vx_sql_forms.specs.declared.errors.FormError.TheVariants.{NoMemory, Mismatch}
use Rattle.vx_sql_forms.specs.declared.operands.TypedExpr.{TypedExpr}

-- the form refuses with what the error says; want of memory may be answered at any time
abbrev pub Refuses : {A : Type 0} → Result A sql.Mismatch → FormError → Type 0
Refuses told NoMemory = Unit {0}
Refuses told (Mismatch m) = told ≡ Err (mismatch_view m)

-- the answer, as it is seen, is what the form gives, or its refusal
abbrev pub AnswersBy : {A B : Type 0} → (A → B) → Result B sql.Mismatch → Result A FormError → Type 0
AnswersBy view told (Ok made) = told ≡ Ok (view made)
AnswersBy view told (Err e) = Refuses told e

-- the answer is the expression that the form gives, with its type, or its refusal
abbrev pub AnswersForm : Result sql.TypedTree sql.Mismatch → Result TypedExpr FormError → Type 0
AnswersForm told answer = AnswersBy typed_view told answer

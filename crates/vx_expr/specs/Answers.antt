-- Answers of calls that have one refusal beside want of memory.
use Rattle.std.specs.Prelude.{◌≡◌, Option, Some, None, Result, Ok, Err}
use Rattle.vx_expr.specs.declared.errors.ExprError.{ExprError}
use Rattle.vx_expr.specs.declared.errors.ExprError.TheVariants.{NoMemory}

-- the answer is the value, as it is seen, or the refusal exactly where there is no value; want of memory may be answered at any time
abbrev pub AnswersBy : {A B : Type 0} → (A → B) → ExprError → Option B → Result A ExprError → Type 0
AnswersBy view refusal value (Ok x) = value ≡ Some (view x)
AnswersBy view refusal value (Err NoMemory) = Unit {0}
AnswersBy view refusal value (Err e) = (e ≡ refusal) × (value ≡ None)

-- the same of a value that is seen as it is
abbrev pub Answers : {A : Type 0} → ExprError → Option A → Result A ExprError → Type 0
Answers refusal value answer = AnswersBy (λ x. x) refusal value answer

-- the answer of a call that takes no memory: the value, or the refusal where there is no value
abbrev pub Exactly : {A : Type 0} → ExprError → Option A → Result A ExprError → Type 0
Exactly refusal (Some x) answer = answer ≡ Ok x
Exactly refusal None answer = answer ≡ Err refusal

-- How what the calls answer is seen.
use Rattle.std.specs.Prelude.{◌≡◌, Result, Ok, Err}
use Rattle.vx_laws_statements.specs.Refusals as told
use Rattle.vx_sql_forms.specs.declared.FormError as form
use Rattle.vx_sql_forms.specs.declared.FormError.TheVariants as error
use Rattle.vx_sql_forms.specs.Views.{operand_view, mismatch_view}
use Rattle.vx_sql.specs.declared.refusals.Refusal.{Refusal}
use Rattle.vx_sql.specs.declared.refusals.Refusal.TheVariants as refusal
use Rattle.vx_sql.specs.declared.refusals.ExpressionError.{ExpressionError}
use Rattle.vx_sql.specs.declared.refusals.ExpressionError.TheVariants.{NoMemory, Refused}

-- a refusal as data
abbrev pub refusal_view : Refusal → told.Refusal
refusal_view refusal.TooDeep = told.too_deep
refusal_view (refusal.Call name) = told.no_call name
refusal_view refusal.Case = told.no_case
refusal_view refusal.Query = told.no_query
refusal_view refusal.Parameter = told.no_parameter
refusal_view (refusal.Fraction written) = told.no_fraction written
refusal_view (refusal.Hexadecimal written) = told.no_hexadecimal written
refusal_view (refusal.Blob digits) = told.no_blob digits
refusal_view (refusal.Prefix op) = told.no_prefix op
refusal_view (refusal.Operator op) = told.no_operator op
refusal_view (refusal.Integer digits) = told.no_integer digits
refusal_view (refusal.Text s) = told.no_text s
refusal_view (refusal.Column f) = told.no_column f
refusal_view (refusal.Field c f) = told.no_field c f
refusal_view (refusal.Type s) = told.no_type s
refusal_view (refusal.ListedColumn c f) = told.listed_column c f
refusal_view refusal.Constant = told.no_constant
refusal_view (refusal.Misplaced m) = told.misplaced (mismatch_view m)
refusal_view (refusal.Condition o) = told.no_condition (operand_view o)

-- why an expression isn't taken whose form has no expression
abbrev pub of_form : form.FormError → ExpressionError
of_form error.NoMemory = NoMemory
of_form (error.Mismatch m) = Refused (refusal.Misplaced m)

-- the rules refuse with what the error holds; want of memory may be answered at any time
abbrev pub Refuses : {A : Type 0} → Result A told.Refusal → ExpressionError → Type 0
Refuses given NoMemory = Unit {0}
Refuses given (Refused r) = given ≡ Err (refusal_view r)

-- the answer, as it is seen, is what the rules give, or their refusal
abbrev pub AnswersBy : {A B : Type 0} → (A → B) → Result B told.Refusal → Result A ExpressionError → Type 0
AnswersBy view given (Ok made) = given ≡ Ok (view made)
AnswersBy view given (Err e) = Refuses given e

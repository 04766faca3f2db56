-- What the calls that rewrite expressions answer.
use Rattle.std.specs.Prelude.{◌≡◌, Result, Ok, Err}
use Rattle.vx_expr.specs.Trees.{Tree}
use Rattle.vx_semantics.specs.Typing.{Refusal, not_struct, nullable_select, unknown_field, type_mismatch}
use Rattle.vx_transform.specs.declared.errors.TransformError.{TransformError}
use Rattle.vx_transform.specs.declared.errors.TransformError.TheVariants.{NoMemory, UnknownField, NotStruct, NullableSelect, TypeMismatch}

-- the pass refuses with what the error names; want of memory may be answered at any time
abbrev pub Refuses : {A : Type 0} → Result A Refusal → TransformError → Type 0
Refuses told NoMemory = Unit {0}
Refuses told UnknownField = told ≡ Err unknown_field
Refuses told NotStruct = told ≡ Err not_struct
Refuses told NullableSelect = told ≡ Err nullable_select
Refuses told TypeMismatch = told ≡ Err type_mismatch

-- the answer, as it is seen, is what the pass gives, or its refusal
abbrev pub AnswersBy : {A B : Type 0} → (A → B) → Result B Refusal → Result A TransformError → Type 0
AnswersBy view told (Ok made) = told ≡ Ok (view made)
AnswersBy view told (Err e) = Refuses told e

-- the answer is the expression that the pass gives, or its refusal
abbrev pub AnswersTree : Result Tree Refusal → Result Tree TransformError → Type 0
AnswersTree told result = AnswersBy (λ e. e) told result

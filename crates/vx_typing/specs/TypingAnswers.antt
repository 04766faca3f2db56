-- What the calls that type expressions answer.
use Rattle.std.specs.Prelude.{◌≡◌, Result, Ok, Err}
use Rattle.vx_dtype.specs.Types.{Ty}
use Rattle.vx_dtype.specs.TypeViews.{type_view}
use Rattle.vx_dtype.specs.declared.types.DType.{DType}
use Rattle.vx_semantics.specs.Typing.{Refusal, and_then, not_struct, nullable_select, unknown_field, duplicate_field, type_mismatch}
use Rattle.vx_typing.specs.declared.errors.TypeError.{TypeError}
use Rattle.vx_typing.specs.declared.errors.TypeError.TheVariants.{NoMemory, NotStruct, NullableSelect, UnknownField, DuplicateField, TypeMismatch}

-- the rules refuse with what the error names; want of memory may be answered at any time
abbrev pub Refuses : {A : Type 0} → Result A Refusal → TypeError → Type 0
Refuses told NoMemory = Unit {0}
Refuses told NotStruct = told ≡ Err not_struct
Refuses told NullableSelect = told ≡ Err nullable_select
Refuses told UnknownField = told ≡ Err unknown_field
Refuses told DuplicateField = told ≡ Err duplicate_field
Refuses told TypeMismatch = told ≡ Err type_mismatch

-- the answer, as it is seen, is what the rules give, or their refusal
abbrev pub AnswersBy : {A B : Type 0} → (A → B) → Result B Refusal → Result A TypeError → Type 0
AnswersBy view told (Ok made) = told ≡ Ok (view made)
AnswersBy view told (Err e) = Refuses told e

-- the answer is the type that the rules give, or their refusal
abbrev pub AnswersType : Result Ty Refusal → Result DType TypeError → Type 0
AnswersType told answer = AnswersBy type_view told answer

-- the types of three operands, each or its refusal, and what the rule makes of them
abbrev pub in_turn : Result Ty Refusal → Result Ty Refusal → Result Ty Refusal → (Ty → Ty → Ty → Result Ty Refusal) → Result Ty Refusal
in_turn first second third rule = and_then first (λ a. and_then second (λ b. and_then third (rule a b)))

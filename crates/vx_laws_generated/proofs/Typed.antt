-- Both expressions are strictly typed.
use Rattle.std.proofs.Common.{◌≡◌, ap, refl, ℕ, ◌/◌, ◌^◌, ◌<◌, Bool, Ok, arith}
use Rattle.std.specs.Prelude.{Result}
use Rattle.std.proofs.lemmas.Bool.{le-leb}
use Rattle.vx_dtype.specs.declared.PType.TheVariants.{I64}
use Rattle.vx_dtype.specs.declared.Nullability.TheVariants.{NonNullable}
use Rattle.vx_dtype.specs.Types.{Ty, int_ty}
use Rattle.vx_dtype.specs.TypeRules.{no_name_twice, alike}
use Rattle.vx_dtype.specs.Fits.{fits}
use Rattle.vx_expr.specs.declared.Operator.{Operator}
use Rattle.vx_semantics.specs.Typing.{Refusal, type_mismatch, unless, and_then, binary_type, typed_of}
use Rattle.vx_semantics.specs.Tables.{row_type}
use Rattle.vx_laws_generated.specs.GeneratedTable.{id_column, v_column, constant_of, field_expr, generated_columns}
use Rattle.vx_laws_generated.specs.GeneratedLaws.{GeneratedFilterIsTyped, GeneratedProjectionIsTyped}

pub generated_projection_is_typed : GeneratedProjectionIsTyped
unfolding typed_of no_name_twice
generated_projection_is_typed = refl

-- a number in range is a constant of its type
half-typed : (t : Ty) (n : ℕ) → n < 2 ^ 32 → typed_of t (constant_of id_column n) ≡ Ok (int_ty I64 NonNullable)
unfolding typed_of no_name_twice fits
half-typed t n h = ap (λ (b : Bool). unless b type_mismatch (Ok (int_ty I64 NonNullable))) (le-leb n 9223372036854775807 (omega arith))

pub generated_filter_is_typed : GeneratedFilterIsTyped
unfolding typed_of no_name_twice fits alike
generated_filter_is_typed rows h =
    let t = row_type generated_columns in
    let half : typed_of t (constant_of id_column (rows / 2)) ≡ Ok (int_ty I64 NonNullable) = half-typed t (rows / 2) (omega arith) in
    ap
    (λ (r : Result Ty Refusal).
    and_then (and_then r (binary_type Operator.Gte (int_ty I64 NonNullable)))
    (λ a.
    and_then (and_then (typed_of t (field_expr v_column)) (λ b. and_then (typed_of t (constant_of v_column 50)) (binary_type Operator.Lt b)))
    (binary_type Operator.And a)))
    half

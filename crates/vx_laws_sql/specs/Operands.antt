-- What stands in a SQL expression: an expression with its type, or a constant that takes its type from what stands across from it.
use Rattle.std.specs.Prelude.{ℤ, Bool, true, false, cond, Option, Some, None, Result, Ok, Err}
use Rattle.vx_dtype.specs.declared.Nullability.TheVariants.{NonNullable, Nullable}
use Rattle.vx_dtype.specs.declared.PType.{PType}
use Rattle.vx_dtype.specs.declared.PType.TheVariants.{I64}
use Rattle.vx_dtype.specs.Types.{Bytes, Ty, bool_ty, int_ty, text_ty}
use Rattle.vx_dtype.specs.TypeRules.{with_nullability, same_ptype, is_plain, alike}
use Rattle.vx_dtype.specs.Values.{Raw, raw_null, raw_bool, raw_int, raw_text}
use Rattle.vx_dtype.specs.Fits.{in_range}
use Rattle.vx_dtype.specs.ScalarAnswers.{typed}
use Rattle.vx_expr.specs.Trees.{Tree, literal, cast}
use Rattle.vx_laws_sql.specs.CommonTypes.{common_type}

-- an expression with its type
pub record TypedTree : Type 0 where
  pub ty : Ty
  pub tree : Tree

-- an operand: an expression with its type, a number, or NULL
pub data Operand : Type 0 where
  known : TypedTree → Operand
  number : ℤ → Operand
  untyped_null : Operand

-- why operands have no place in a form
pub data Mismatch : Type 0 where
  -- a number that is none of the integer type
  out_of_range : ℤ → PType → Mismatch
  -- two operands of two kinds, in their order
  other_kinds : Operand → Operand → Mismatch
  -- a list or a struct, which is neither compared nor added
  not_plain : Operand → Mismatch
  -- numbers of types that no type holds together
  no_common_type : PType → PType → Mismatch
  -- an operand where a boolean, a text or a number is asked
  no_boolean : Operand → Mismatch
  no_text : Operand → Mismatch
  no_number : Operand → Mismatch
  -- a cast from one kind to another
  no_cast : Operand → Ty → Mismatch
  -- membership in no constants
  no_constants : Mismatch

-- what a step gives over what the step before it gave, or its refusal
infixl 20 ◌>>=◌
abbrev pub ◌>>=◌ : {X Y : Type 0} → Result X Mismatch → (X → Result Y Mismatch) → Result Y Mismatch
(Ok x) >>= next = next x
(Err r) >>= next = Err r

-- the answer where the test holds, else the refusal
abbrev pub where_it : {X : Type 0} → Bool → Mismatch → Result X Mismatch → Result X Mismatch
where_it true r answer = answer
where_it false r answer = Err r

-- the type that an operand has where nothing gives it one: a number and NULL are i64
abbrev pub type_alone : Operand → Ty
type_alone (known e) = e.ty
type_alone (number i) = int_ty I64 NonNullable
type_alone untyped_null = int_ty I64 NonNullable

-- a constant, and NULL of a type
abbrev pub constant : Ty → Raw → TypedTree
constant t r = record { ty = t; tree = literal (typed t r) }

abbrev pub null_of : Ty → TypedTree
null_of t = constant (with_nullability t Nullable) raw_null

abbrev pub boolean : Bool → TypedTree
boolean b = constant (bool_ty NonNullable) (raw_bool b)

abbrev pub text : Bytes → TypedTree
text s = constant (text_ty NonNullable) (raw_text s)

-- a number as one of an integer type
abbrev pub number_in : PType → ℤ → Result TypedTree Mismatch
number_in p i = where_it (in_range p i) (out_of_range i p) (Ok (constant (int_ty p NonNullable) (raw_int i)))

-- a number across from an operand of this type
abbrev pub number_across : Operand → ℤ → Ty → Result TypedTree Mismatch
number_across other i (int_ty p n) = number_in p i
number_across other i _ = Err (other_kinds other (number i))

-- an operand with the type that it takes from the one across from it
abbrev pub taking : Operand → Operand → Result TypedTree Mismatch
taking other (known e) = Ok e
taking other (number i) = number_across other i (type_alone other)
taking other untyped_null = Ok (null_of (type_alone other))

-- an operand alone
abbrev pub alone : Operand → Result TypedTree Mismatch
alone o = taking untyped_null o

-- the integer type of a type
abbrev pub ptype_of : Ty → Option PType
ptype_of (int_ty p n) = Some p
ptype_of _ = None

-- an expression of an integer type in a wider one
abbrev pub in_wider : PType → Ty → Tree → TypedTree
in_wider c (int_ty p n) e = cond (same_ptype p c) (record { ty = int_ty p n; tree = e }) (record { ty = int_ty c n; tree = cast e (int_ty c n) })
in_wider c t e = record { ty = t; tree = e }

abbrev pub widened_to : PType → TypedTree → TypedTree
widened_to c e = in_wider c e.ty e.tree

-- two expressions of one plain type but for nullability
abbrev pub alike_pair : TypedTree → TypedTree → Result (TypedTree × TypedTree) Mismatch
alike_pair a b =
    where_it (is_plain a.ty) (not_plain (known a)) (where_it (is_plain b.ty) (not_plain (known b))
    (where_it (alike a.ty b.ty) (other_kinds (known a) (known b)) (Ok (a, b))))

abbrev pub in_common : PType → PType → Option PType → TypedTree → TypedTree → Result (TypedTree × TypedTree) Mismatch
in_common p q (Some c) a b = Ok (widened_to c a, widened_to c b)
in_common p q None a b = Err (no_common_type p q)

abbrev pub matched_by : Option PType → Option PType → TypedTree → TypedTree → Result (TypedTree × TypedTree) Mismatch
matched_by (Some p) (Some q) a b = in_common p q (common_type p q) a b
matched_by _ _ a b = alike_pair a b

-- two expressions as they are compared: of one plain type, two of integer types in the narrowest that holds both
abbrev pub matched : TypedTree → TypedTree → Result (TypedTree × TypedTree) Mismatch
matched a b = matched_by (ptype_of a.ty) (ptype_of b.ty) a b

-- two operands as they are compared, each with the type that it takes from the other
abbrev pub both : Operand → Operand → Result (TypedTree × TypedTree) Mismatch
both l r = taking r l >>= λ a. taking l r >>= λ b. matched a b

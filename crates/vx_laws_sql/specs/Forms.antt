-- The expression of each form of SQL over its operands, with its type, or why they have no place in it.
use Rattle.std.specs.Prelude.{ℤ, false, Option, Some, None, Result, Ok, Err}
use Rattle.vx_dtype.specs.declared.Nullability.TheVariants.{NonNullable, Nullable}
use Rattle.vx_dtype.specs.Types.{Ty, bool_ty, int_ty, text_ty}
use Rattle.vx_dtype.specs.TypeRules.{union, nullability_of, with_nullability, widened, is_plain, is_bool_ty, is_int_ty, is_text_ty, alike}
use Rattle.vx_dtype.specs.Values.{raw_int}
use Rattle.vx_dtype.specs.Fits.{fits}
use Rattle.vx_dtype.specs.Casts.{takes_cast}
use Rattle.vx_dtype.specs.declared.PType.{PType}
use Rattle.vx_dtype.specs.declared.CompareOperator.{CompareOperator}
use Rattle.vx_dtype.specs.declared.StrictComparison.TheVariants.{NonStrict}
use Rattle.vx_dtype.specs.declared.BetweenOptions.{BetweenOptions}
use Rattle.vx_expr.specs.declared.Operator.{Operator}
use Rattle.vx_expr.specs.Operators.{operator_of}
use Rattle.vx_expr.specs.Trees.{Tree, binary, not_of, is_null_of, like, between, cast}
use Rattle.vx_semantics.specs.Typing.{union_of}
use Rattle.vx_laws_sql.specs.CommonTypes.{common_type, common_of_three, first_apart}
use Rattle.vx_laws_sql.specs.Operands.{TypedTree, Operand, known, number, untyped_null, Mismatch, out_of_range, other_kinds, not_plain, no_common_type}
use Rattle.vx_laws_sql.specs.Operands.{no_boolean, no_text, no_number, no_cast, ◌>>=◌, where_it, constant, null_of}
use Rattle.vx_laws_sql.specs.Operands.{taking, alone, ptype_of, widened_to, in_common, both}

-- an expression as an operand of a further form
abbrev pub truth_of : Ty → Ty → Tree → TypedTree
truth_of a b e = record { ty = bool_ty (union_of a b); tree = e }

-- `l = r`, `l <> r`, `l < r`, `l <= r`, `l > r` and `l >= r`
abbrev pub comparison : CompareOperator → Operand → Operand → Result TypedTree Mismatch
comparison op l r = both l r >>= λ x. Ok (truth_of x.0.ty x.1.ty (binary x.0.tree (operator_of op) x.1.tree))

-- a sum or a difference of two expressions of one type
abbrev pub sum_node : Operator → TypedTree × TypedTree → TypedTree
sum_node op x = record { ty = with_nullability x.0.ty (union_of x.0.ty x.1.ty); tree = binary x.0.tree op x.1.tree }

abbrev pub sum_by : Operator → Operand → Operand → Result TypedTree Mismatch
sum_by op l r = both l r >>= λ x. where_it (is_int_ty x.0.ty) (no_number (known x.0)) (Ok (sum_node op x))

-- `l + r` and `l - r`
abbrev pub sum : Operand → Operand → Result TypedTree Mismatch
sum l r = sum_by Operator.Add l r

abbrev pub difference : Operand → Operand → Result TypedTree Mismatch
difference l r = sum_by Operator.Sub l r

-- an operand where a boolean is asked: NULL is one
abbrev pub as_boolean : Operand → Result TypedTree Mismatch
as_boolean (known e) = where_it (is_bool_ty e.ty) (no_boolean (known e)) (Ok e)
as_boolean (number i) = Err (no_boolean (number i))
as_boolean untyped_null = Ok (null_of (bool_ty Nullable))

-- an operand where a text is asked: NULL is one
abbrev pub as_text : Operand → Result TypedTree Mismatch
as_text (known e) = where_it (is_text_ty e.ty) (no_text (known e)) (Ok e)
as_text (number i) = Err (no_text (number i))
as_text untyped_null = Ok (null_of (text_ty Nullable))

abbrev pub connective : Operator → Operand → Operand → Result TypedTree Mismatch
connective op l r = as_boolean l >>= λ a. as_boolean r >>= λ b. Ok (truth_of a.ty b.ty (binary a.tree op b.tree))

-- `l AND r` and `l OR r`
abbrev pub conjunction : Operand → Operand → Result TypedTree Mismatch
conjunction l r = connective Operator.And l r

abbrev pub disjunction : Operand → Operand → Result TypedTree Mismatch
disjunction l r = connective Operator.Or l r

-- `NOT e`, and so `NOT BETWEEN`, `NOT IN` and `NOT LIKE`
abbrev pub negation : Operand → Result TypedTree Mismatch
negation o = as_boolean o >>= λ e. Ok (record { ty = e.ty; tree = not_of e.tree })

-- `e IS NULL`, and `e IS NOT NULL`
abbrev pub null_test : Operand → Result TypedTree Mismatch
null_test o = alone o >>= λ e. Ok (record { ty = bool_ty NonNullable; tree = is_null_of e.tree })

abbrev pub not_null_test : Operand → Result TypedTree Mismatch
not_null_test o = alone o >>= λ e. Ok (record { ty = bool_ty NonNullable; tree = not_of (is_null_of e.tree) })

-- `e LIKE p`, which minds case
abbrev pub pattern_test : Operand → Operand → Result TypedTree Mismatch
pattern_test l r = as_text l >>= λ a. as_text r >>= λ b. Ok (truth_of a.ty b.ty (like a.tree b.tree false false))

-- three expressions as they stand in a range: of one plain type, three of integer types in the narrowest that holds all
pub record InRange : Type 0 where
  pub value : TypedTree
  pub lower : TypedTree
  pub upper : TypedTree

abbrev pub alike_three : InRange → Result InRange Mismatch
alike_three x =
    where_it (is_plain x.value.ty) (not_plain (known x.value))
    (where_it (alike x.value.ty x.lower.ty) (other_kinds (known x.value) (known x.lower))
    (where_it (alike x.value.ty x.upper.ty) (other_kinds (known x.value) (known x.upper)) (Ok x)))

abbrev pub three_in_common : PType → PType → PType → Option PType → InRange → Result InRange Mismatch
three_in_common p q r (Some c) x = Ok (record { value = widened_to c x.value; lower = widened_to c x.lower; upper = widened_to c x.upper })
three_in_common p q r None x = Err (no_common_type (first_apart p q r).0 (first_apart p q r).1)

abbrev pub three_matched_by : Option PType → Option PType → Option PType → InRange → Result InRange Mismatch
three_matched_by (Some p) (Some q) (Some r) x = three_in_common p q r (common_of_three p q r) x
three_matched_by (Some p) (Some q) None x = in_common p q (common_type p q) x.value x.lower >>= λ y. Err (other_kinds (known x.value) (known x.upper))
three_matched_by _ _ _ x = alike_three x

abbrev pub three_matched : InRange → Result InRange Mismatch
three_matched x = three_matched_by (ptype_of x.value.ty) (ptype_of x.lower.ty) (ptype_of x.upper.ty) x

-- the first of two operands that is an expression with its type, else the second
abbrev pub first_known : Operand → Operand → Operand
first_known (known e) o = known e
first_known (number i) o = o
first_known untyped_null o = o

-- both bounds count
abbrev pub both_count : BetweenOptions
both_count = record { lower_strict = NonStrict; upper_strict = NonStrict }

abbrev pub range_node : InRange → TypedTree
range_node x = record {
  ty = bool_ty (union (nullability_of x.value.ty) (union_of x.lower.ty x.upper.ty));
  tree = between x.value.tree x.lower.tree x.upper.tree both_count;
}

-- the three operands of a range, each with the type that it takes from the first of them that has one
abbrev pub ranged : Operand → Operand → Operand → Operand → Result InRange Mismatch
ranged across o lower upper =
    taking across o >>= λ a. taking across lower >>= λ b. taking across upper >>= λ c. three_matched (record { value = a; lower = b; upper = c })

-- `e BETWEEN lower AND upper`
abbrev pub range_test : Operand → Operand → Operand → Result TypedTree Mismatch
range_test o lower upper = ranged (first_known o (first_known lower upper)) o lower upper >>= λ x. Ok (range_node x)

-- an expression in another type, which is nullable where the expression's is
abbrev pub cast_node : Ty → TypedTree → TypedTree
cast_node target e = record { ty = widened target (nullability_of e.ty); tree = cast e.tree (widened target (nullability_of e.ty)) }

-- a number that is none of the type: out of an integer type's range, or of another kind
abbrev pub wrong_number : ℤ → Ty → Mismatch
wrong_number i (int_ty p n) = out_of_range i p
wrong_number i t = no_cast (number i) t

-- `CAST(e AS target)`; a number and NULL are constants of the target
abbrev pub cast_to : Ty → Operand → Result TypedTree Mismatch
cast_to target (known e) = where_it (takes_cast e.ty target) (no_cast (known e) target) (Ok (cast_node target e))
cast_to target (number i) = where_it (fits (raw_int i) target) (wrong_number i target) (Ok (constant target (raw_int i)))
cast_to target untyped_null = where_it (is_plain target) (no_cast untyped_null target) (Ok (null_of target))

-- What the forms of SQL mean at a row, in SQL's words: by three-valued logic, and numbers by what they are, whatever their integer types.
use Rattle.std.specs.Prelude.{◌≡◌, ℤ, ◌+ℤ◌, ◌-ℤ◌, true, false, List, [], ◌∷◌, Result, Ok}
use Rattle.vx_dtype.specs.declared.CompareOperator.{CompareOperator}
use Rattle.vx_dtype.specs.declared.CompareOperator.TheVariants.{Eq, NotEq, Gt, Gte, Lt, Lte}
use Rattle.vx_dtype.specs.declared.PType.TheVariants.{I64}
use Rattle.vx_dtype.specs.Types.{Ty, int_ty}
use Rattle.vx_dtype.specs.Values.{Raw, raw_null, raw_bool, raw_int, raw_text, Val, null_val, bool_val, int_val, text_val, fault}
use Rattle.vx_dtype.specs.Fits.{fits_but_for_faults}
use Rattle.vx_dtype.specs.Logic.{and3, or3, not3, is_null3, on_known}
use Rattle.vx_dtype.specs.Order.{compare3}
use Rattle.vx_dtype.specs.Like.{like3}
use Rattle.vx_dtype.specs.Casts.{cast3}
use Rattle.vx_dtype.specs.Sums.{int_in}
use Rattle.vx_semantics.specs.Meaning.{Slots, mean}
use Rattle.vx_semantics.specs.Slots.{slots_fit}
use Rattle.vx_laws_sql.specs.Operands.{TypedTree, Operand, known, number, untyped_null, Mismatch}
use Rattle.vx_laws_sql.specs.Forms.{comparison, sum, difference, conjunction, disjunction, negation, null_test, not_null_test, pattern_test, range_test}
use Rattle.vx_laws_sql.specs.Forms.{cast_to}
use Rattle.vx_laws_sql.specs.Membership.{membership}
use Rattle.vx_laws_sql.specs.Typing.{HasItsType}

-- what a number is as a value: comparisons, sums and casts don't ask its integer type
abbrev pub plain_number : ℤ → Val
plain_number i = int_val I64 i

-- what an operand is at a row
abbrev pub value_at : Ty → Slots → Val → Operand → Val
value_at t slots row (known e) = mean t slots row e.tree
value_at t slots row (number i) = plain_number i
value_at t slots row untyped_null = null_val

-- an operand whose expression, where it is one, has its type, with slots that fit
abbrev pub IsAt : Ty → Slots → Operand → Type 0
IsAt t slots (known e) = HasItsType t e × (slots_fit slots e.tree ≡ true)
IsAt t slots (number i) = Unit {0}
IsAt t slots untyped_null = Unit {0}

-- at a row of the scope's type, but for faults, a form of one operand means this of what the operand is there
abbrev pub OneOperandMeans : (Operand → Result TypedTree Mismatch) → (Val → Val) → Type 0
OneOperandMeans form rule =
    (t : Ty) (slots : Slots) (row : Val) (o : Operand) (x : TypedTree)
    → fits_but_for_faults row t ≡ true → IsAt t slots o → form o ≡ Ok x → mean t slots row x.tree ≡ rule (value_at t slots row o)

-- the same of two operands
abbrev pub TwoOperandsMean : (Operand → Operand → Result TypedTree Mismatch) → (Val → Val → Val) → Type 0
TwoOperandsMean form rule =
    (t : Ty) (slots : Slots) (row : Val) (l r : Operand) (x : TypedTree)
    → fits_but_for_faults row t ≡ true → IsAt t slots l → IsAt t slots r → form l r ≡ Ok x
    → mean t slots row x.tree ≡ rule (value_at t slots row l) (value_at t slots row r)

-- a comparison of operands of any two integer types is that of their numbers
abbrev pub ComparisonsMean : Type 0
ComparisonsMean = (op : CompareOperator) → TwoOperandsMean (comparison op) (compare3 op)

abbrev pub ConjunctionsMean : Type 0
ConjunctionsMean = TwoOperandsMean conjunction and3

abbrev pub DisjunctionsMean : Type 0
DisjunctionsMean = TwoOperandsMean disjunction or3

abbrev pub NegationsMean : Type 0
NegationsMean = OneOperandMeans negation not3

abbrev pub NullTestsMean : Type 0
NullTestsMean = OneOperandMeans null_test is_null3

abbrev pub NotNullTestsMean : Type 0
NotNullTestsMean = OneOperandMeans not_null_test (λ v. not3 (is_null3 v))

abbrev pub PatternsMean : Type 0
PatternsMean = TwoOperandsMean pattern_test (like3 false false)

-- `NOT LIKE` is true exactly where `LIKE` is false
abbrev pub NegatedPatternsMean : Type 0
NegatedPatternsMean =
    (t : Ty) (slots : Slots) (row : Val) (l r : Operand) (x y : TypedTree)
    → fits_but_for_faults row t ≡ true → IsAt t slots l → IsAt t slots r → pattern_test l r ≡ Ok x → negation (known x) ≡ Ok y
    → mean t slots row y.tree ≡ like3 true false (value_at t slots row l) (value_at t slots row r)

-- `o BETWEEN lower AND upper` is `o >= lower AND o <= upper`
abbrev pub within : Val → Val → Val → Val
within v lower upper = and3 (compare3 Gte v lower) (compare3 Lte v upper)

-- `o NOT BETWEEN lower AND upper` is `o < lower OR o > upper`
abbrev pub outside : Val → Val → Val → Val
outside v lower upper = or3 (compare3 Lt v lower) (compare3 Gt v upper)

abbrev pub RangesMean : Type 0
RangesMean =
    (t : Ty) (slots : Slots) (row : Val) (o lower upper : Operand) (x : TypedTree)
    → fits_but_for_faults row t ≡ true → IsAt t slots o → IsAt t slots lower → IsAt t slots upper → range_test o lower upper ≡ Ok x
    → mean t slots row x.tree ≡ within (value_at t slots row o) (value_at t slots row lower) (value_at t slots row upper)

abbrev pub NegatedRangesMean : Type 0
NegatedRangesMean =
    (t : Ty) (slots : Slots) (row : Val) (o lower upper : Operand) (x y : TypedTree)
    → fits_but_for_faults row t ≡ true → IsAt t slots o → IsAt t slots lower → IsAt t slots upper → range_test o lower upper ≡ Ok x
    → negation (known x) ≡ Ok y
    → mean t slots row y.tree ≡ outside (value_at t slots row o) (value_at t slots row lower) (value_at t slots row upper)

-- what a constant of a list is
abbrev pub constant_value : Raw → Val
constant_value raw_null = null_val
constant_value (raw_bool b) = bool_val b
constant_value (raw_int i) = plain_number i
constant_value (raw_text s) = text_val s
constant_value _ = fault

-- `o IN (a, b)` is `o = a OR o = b`, with NULL among the constants too
abbrev pub equals_one : Val → List Raw → Val
equals_one v [] = bool_val false
equals_one v (c ∷ cs) = or3 (compare3 Eq v (constant_value c)) (equals_one v cs)

-- `o NOT IN (a, b)` is `o <> a AND o <> b`
abbrev pub differs_from_all : Val → List Raw → Val
differs_from_all v [] = bool_val true
differs_from_all v (c ∷ cs) = and3 (compare3 NotEq v (constant_value c)) (differs_from_all v cs)

abbrev pub MembershipsMean : Type 0
MembershipsMean = (cs : List Raw) → OneOperandMeans (λ o. membership o cs) (λ v. equals_one v cs)

abbrev pub NegatedMembershipsMean : Type 0
NegatedMembershipsMean =
    (t : Ty) (slots : Slots) (row : Val) (o : Operand) (cs : List Raw) (x y : TypedTree)
    → fits_but_for_faults row t ≡ true → IsAt t slots o → membership o cs ≡ Ok x → negation (known x) ≡ Ok y
    → mean t slots row y.tree ≡ differs_from_all (value_at t slots row o) cs

-- a number as one of the type; a fault where it leaves the type
abbrev pub number_of_type : Ty → ℤ → Val
number_of_type (int_ty p n) i = int_in p i
number_of_type t i = fault

-- two numbers under a rule, as a number of the type
abbrev pub number_by : (ℤ → ℤ → ℤ) → Ty → Val → Val → Val
number_by rule t (int_val p a) (int_val q b) = number_of_type t (rule a b)
number_by rule t v w = fault

-- the same of two values, null where one is null
abbrev pub arithmetic : (ℤ → ℤ → ℤ) → Ty → Val → Val → Val
arithmetic rule t v w = on_known (number_by rule t) v w

-- a sum or a difference is that of the numbers, as one of its type
abbrev pub SumMeans : (Operand → Operand → Result TypedTree Mismatch) → (ℤ → ℤ → ℤ) → Type 0
SumMeans form rule =
    (t : Ty) (slots : Slots) (row : Val) (l r : Operand) (x : TypedTree)
    → fits_but_for_faults row t ≡ true → IsAt t slots l → IsAt t slots r → form l r ≡ Ok x
    → mean t slots row x.tree ≡ arithmetic rule x.ty (value_at t slots row l) (value_at t slots row r)

abbrev pub SumsMean : Type 0
SumsMean = SumMeans sum (λ a b. a +ℤ b)

abbrev pub DifferencesMean : Type 0
DifferencesMean = SumMeans difference (λ a b. a -ℤ b)

-- a value in another type; null stays null
abbrev pub in_type : Ty → Val → Val
in_type target null_val = null_val
in_type target v = cast3 target v

abbrev pub CastsMean : Type 0
CastsMean = (target : Ty) → OneOperandMeans (cast_to target) (in_type target)

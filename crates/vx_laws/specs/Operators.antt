-- What the tables of the operators say of what operators mean.
use Rattle.std.specs.Prelude.{◌≡◌, Bool, true, false, Some, option_map, Ok, MatchOption}
use Rattle.vx_dtype.specs.declared.BetweenOptions.{BetweenOptions}
use Rattle.vx_dtype.specs.Types.{Ty}
use Rattle.vx_dtype.specs.TypeRules.{same_ptype}
use Rattle.vx_dtype.specs.Values.{Val, int_val}
use Rattle.vx_dtype.specs.Fits.{fits_but_for_faults}
use Rattle.vx_dtype.specs.Logic.{not3}
use Rattle.vx_expr.specs.declared.Operator.{Operator}
use Rattle.vx_expr.specs.Trees.{Tree, binary, between}
use Rattle.vx_expr.specs.Operators.{inverse_of, swapped, range_as_binary}
use Rattle.vx_expr.specs.Conjuncts.{conjuncts_of}
use Rattle.vx_build.specs.Collectors.{joined_right}
use Rattle.vx_semantics.specs.Typing.{typed_of}
use Rattle.vx_semantics.specs.Meaning.{Slots, binary3, mean}

-- whether two values are not numbers of two integer types
abbrev pub no_two_integer_types : Val → Val → Bool
no_two_integer_types (int_val p a) (int_val q b) = same_ptype p q
no_two_integer_types _ _ = true

-- whether the operands of an operator may change places: for a sum, where they are not numbers of two integer types; for a difference never
abbrev pub may_swap : Operator → Val → Val → Bool
may_swap Operator.Add a b = no_two_integer_types a b
may_swap Operator.Sub a b = false
may_swap _ a b = true

-- an operator on two values gives what the swapped one gives on them in the other order
abbrev pub SwapKeepsMeaning : Type 0
SwapKeepsMeaning = (op : Operator) (a b : Val) → may_swap op a b ≡ true → binary3 op a b ≡ binary3 (swapped op) b a

-- whether an operator is a difference
abbrev pub is_difference : Operator → Bool
is_difference Operator.Sub = true
is_difference _ = false

-- a strictly typed expression of two operands means what the swapped one means on them in the other order
abbrev pub TypedSwapKeepsMeaning : Type 0
TypedSwapKeepsMeaning =
    (t : Ty) (slots : Slots) (row : Val) (l : Tree) (op : Operator) (r : Tree) (u : Ty)
    → fits_but_for_faults row t ≡ true → typed_of t (binary l op r) ≡ Ok u → is_difference op ≡ false
    → mean t slots row (binary l op r) ≡ mean t slots row (binary r (swapped op) l)

-- the negation of a comparison is the inverse comparison, null and fault included
abbrev pub InverseNegates : Type 0
InverseNegates = (op : Operator) → MatchOption (inverse_of op) (Unit {0}) (λ inverse. (a b : Val) → not3 (binary3 op a b) ≡ binary3 inverse a b)

-- a range means what its two comparisons mean
abbrev pub RangeMeansItsComparisons : Type 0
RangeMeansItsComparisons =
    (t : Ty) (slots : Slots) (row : Val) (e lower upper : Tree) (options : BetweenOptions)
    → mean t slots row (between e lower upper options) ≡ mean t slots row (range_as_binary e lower upper options)

-- the conjuncts of an expression, of which there is one at least, mean joined by `and` what it means
abbrev pub ConjunctsMeanTheWhole : Type 0
ConjunctsMeanTheWhole =
    (t : Ty) (slots : Slots) (row : Val) (e : Tree)
    → option_map (mean t slots row) (joined_right Operator.And (conjuncts_of e)) ≡ Some (mean t slots row e)

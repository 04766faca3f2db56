-- The order of plain values, comparisons and ranges: false before true, numbers by value, texts by their bytes.
use Rattle.std.specs.Prelude.{Bool, Option, Some, None}
use Rattle.std.specs.declared.cmp.Ordering.{Ordering}
use Rattle.std.specs.Ordering.{nat_cmp, int_cmp, bool_cmp, is_eq, is_ne, is_lt, is_gt, is_le, is_ge}
use Rattle.std.specs.Cmp.Lexicographic.{slice_cmp}
pub use Rattle.vx_dtype.specs.declared.comparisons.CompareOperator.{CompareOperator}
pub use Rattle.vx_dtype.specs.declared.comparisons.CompareOperator.TheVariants.{Eq, NotEq, Gt, Gte, Lt, Lte}
pub use Rattle.vx_dtype.specs.declared.comparisons.StrictComparison.{StrictComparison}
pub use Rattle.vx_dtype.specs.declared.comparisons.StrictComparison.TheVariants.{Strict, NonStrict}
pub use Rattle.vx_dtype.specs.declared.comparisons.BetweenOptions.{BetweenOptions}
use Rattle.vx_dtype.specs.Values.{Val, bool_val, int_val, text_val, fault}
use Rattle.vx_dtype.specs.Logic.{on_known, and3, is_true_val}

-- how two plain values of one kind stand; values of two kinds, lists and structs have no order
abbrev pub order : Val → Val → Option Ordering
order (bool_val a) (bool_val b) = Some (bool_cmp a b)
order (int_val p a) (int_val q b) = Some (int_cmp a b)
order (text_val a) (text_val b) = Some (slice_cmp nat_cmp a b)
order _ _ = None

-- whether a comparison holds of values that stand so
abbrev pub meets : CompareOperator → Ordering → Bool
meets Eq o = is_eq o
meets NotEq o = is_ne o
meets Gt o = is_gt o
meets Gte o = is_ge o
meets Lt o = is_lt o
meets Lte o = is_le o

-- the comparison that holds of two values where this one does of the second and the first
abbrev pub swapped_comparison : CompareOperator → CompareOperator
swapped_comparison Gt = Lt
swapped_comparison Lt = Gt
swapped_comparison Gte = Lte
swapped_comparison Lte = Gte
swapped_comparison op = op

-- the comparison of values by how they stand; a fault where they have no order
abbrev pub by_order : CompareOperator → Option Ordering → Val
by_order op (Some o) = bool_val (meets op o)
by_order op None = fault

-- the comparison of two values that are neither null nor a fault
abbrev pub compared : CompareOperator → Val → Val → Val
compared op l r = by_order op (order l r)

-- the comparison of two values
abbrev pub compare3 : CompareOperator → Val → Val → Val
compare3 op l r = on_known (compared op) l r

-- whether a comparison of two values is true
abbrev pub compares : CompareOperator → Val → Val → Bool
compares op l r = is_true_val (compare3 op l r)

-- the comparison that a bound asks: `<` where it is strict, else `<=`
abbrev pub bound_operator : StrictComparison → CompareOperator
bound_operator Strict = Lt
bound_operator NonStrict = Lte

-- whether a value lies between two bounds: the lower bound before it, and it before the upper bound
abbrev pub between3 : BetweenOptions → Val → Val → Val → Val
between3 options v lower upper = and3 (compare3 (bound_operator options.lower_strict) lower v) (compare3 (bound_operator options.upper_strict) v upper)

-- The laws of the tables of the operators.
use Rattle.std.proofs.Common.{◌≡◌, refl, ap, sym, ◌∙◌, Bool, true, false, Option, Some, None}
use Rattle.std.specs.declared.cmp.Ordering.{Ordering}
use Rattle.std.specs.declared.cmp.Ordering.TheVariants.{Less}
use Rattle.std.specs.Prelude.{◌+ℤ◌}
use Rattle.std.specs.Ordering.{bool_cmp, ordering_reverse}
use Rattle.std.proofs.Math.IntN.{+ℤ_comm}
use Rattle.std.proofs.lemmas.Cmp.{int_cmp_total, nat_list_cmp_total}
use Rattle.vx_dtype.specs.declared.PType.{PType}
use Rattle.vx_dtype.specs.declared.PType.TheVariants.{U8, U16, U32, U64, I8, I16, I32, I64}
use Rattle.vx_dtype.specs.declared.CompareOperator.{CompareOperator}
use Rattle.vx_dtype.specs.declared.CompareOperator.TheVariants.{Eq, NotEq, Gt, Gte, Lt, Lte}
use Rattle.vx_dtype.specs.TypeRules.{same_ptype}
use Rattle.vx_dtype.specs.Values.{Val, null_val, bool_val, int_val, text_val, list_val, struct_val, fault}
use Rattle.vx_dtype.specs.Logic.{on_known, not3, and3}
use Rattle.vx_dtype.specs.Sums.{sum_of, int_in}
use Rattle.vx_dtype.specs.Order.{order, meets, swapped_comparison, by_order, compared, compare3, bound_operator}
use Rattle.vx_expr.specs.declared.Operator.{Operator}
use Rattle.vx_expr.specs.Operators.{inverse_comparison, operator_of}
use Rattle.vx_semantics.specs.Meaning.{binary3, mean}
use Rattle.vx_laws.specs.Operators.{no_two_integer_types, SwapKeepsMeaning, InverseNegates, RangeMeansItsComparisons}
use Rattle.vx_laws.proofs.Kleene.{and3_comm, or3_comm}

pub bool_cmp_antisymm : (a b : Bool) → bool_cmp a b ≡ ordering_reverse (bool_cmp b a)
bool_cmp_antisymm true true = refl
bool_cmp_antisymm false true = refl
bool_cmp_antisymm _ _ = refl

-- the stand of two values the other way round
abbrev pub reversed : Option Ordering → Option Ordering
reversed None = None
reversed (Some o) = Some (ordering_reverse o)

pub order-swap : (a b : Val) → order a b ≡ reversed (order b a)
order-swap (bool_val a) (bool_val b) = ap Some (bool_cmp_antisymm a b)
order-swap (int_val p a) (int_val q b) = ap Some (int_cmp_total.antisymm a b)
order-swap (text_val a) (text_val b) = ap Some (nat_list_cmp_total.antisymm a b)
order-swap null_val (bool_val b) = refl
order-swap (list_val xs) (bool_val b) = refl
order-swap (struct_val ms) (bool_val b) = refl
order-swap fault (bool_val b) = refl
order-swap _ _ = refl

pub meets-reverse : (op : CompareOperator) (o : Ordering) → meets op (ordering_reverse o) ≡ meets (swapped_comparison op) o
meets-reverse Eq Less = refl
meets-reverse NotEq Less = refl
meets-reverse Gt Less = refl
meets-reverse Gte Less = refl
meets-reverse Lt Less = refl
meets-reverse Lte Less = refl
meets-reverse _ _ = refl

pub by_order-reverse : (op : CompareOperator) (o : Option Ordering) → by_order op (reversed o) ≡ by_order (swapped_comparison op) o
by_order-reverse op None = refl
by_order-reverse op (Some o) = ap bool_val (meets-reverse op o)

pub compared-swap : (op : CompareOperator) (a b : Val) → compared op a b ≡ compared (swapped_comparison op) b a
compared-swap op a b = ap (by_order op) (order-swap a b) ∙ by_order-reverse op (order b a)

-- a rule on two operands that gives what another gives on them the other way round does so with null and faults
pub on_known-swap : (rule other : Val → Val → Val) (a b : Val) → rule a b ≡ other b a → on_known rule a b ≡ on_known other b a
on_known-swap rule other fault fault h = refl
on_known-swap rule other null_val fault h = refl
on_known-swap rule other (bool_val x) fault h = refl
on_known-swap rule other (int_val p x) fault h = refl
on_known-swap rule other (text_val x) fault h = refl
on_known-swap rule other (list_val x) fault h = refl
on_known-swap rule other (struct_val x) fault h = refl
on_known-swap rule other fault b h = refl
on_known-swap rule other null_val null_val h = refl
on_known-swap rule other null_val b h = refl
on_known-swap rule other (bool_val x) null_val h = refl
on_known-swap rule other (int_val p x) null_val h = refl
on_known-swap rule other (text_val x) null_val h = refl
on_known-swap rule other (list_val x) null_val h = refl
on_known-swap rule other (struct_val x) null_val h = refl
on_known-swap rule other a b h = h

pub compare3-swap : (op : CompareOperator) (a b : Val) → compare3 op a b ≡ compare3 (swapped_comparison op) b a
compare3-swap op a b = on_known-swap (compared op) (compared (swapped_comparison op)) a b (compared-swap op a b)

pub same_ptype-same : (p q : PType) → same_ptype p q ≡ true → p ≡ q
same_ptype-same U8 U8 h = refl
same_ptype-same U16 U16 h = refl
same_ptype-same U32 U32 h = refl
same_ptype-same U64 U64 h = refl
same_ptype-same I8 I8 h = refl
same_ptype-same I16 I16 h = refl
same_ptype-same I32 I32 h = refl
same_ptype-same I64 I64 h = refl
same_ptype-same _ _ h = cc

pub sum_of-swap : (a b : Val) → no_two_integer_types a b ≡ true → sum_of a b ≡ sum_of b a
sum_of-swap (int_val p a) (int_val q b) h = ap (λ (r : PType). int_in r (a +ℤ b)) (same_ptype-same p q h) ∙ ap (int_in q) (+ℤ_comm a b)
sum_of-swap null_val (int_val q b) h = refl
sum_of-swap (bool_val x) (int_val q b) h = refl
sum_of-swap (text_val x) (int_val q b) h = refl
sum_of-swap (list_val x) (int_val q b) h = refl
sum_of-swap (struct_val x) (int_val q b) h = refl
sum_of-swap fault (int_val q b) h = refl
sum_of-swap _ _ h = refl

pub swap_keeps : SwapKeepsMeaning
swap_keeps Operator.Eq a b h = compare3-swap Eq a b
swap_keeps Operator.NotEq a b h = compare3-swap NotEq a b
swap_keeps Operator.Gt a b h = compare3-swap Gt a b
swap_keeps Operator.Gte a b h = compare3-swap Gte a b
swap_keeps Operator.Lt a b h = compare3-swap Lt a b
swap_keeps Operator.Lte a b h = compare3-swap Lte a b
swap_keeps Operator.And a b h = and3_comm a b
swap_keeps Operator.Or a b h = or3_comm a b
swap_keeps Operator.Add a b h = on_known-swap sum_of sum_of a b (sum_of-swap a b h)
swap_keeps Operator.Sub a b h = cc

-- the negation of a comparison of two values
pub not3-by_order : (op : CompareOperator) (o : Option Ordering) → not3 (by_order op o) ≡ by_order (inverse_comparison op) o
not3-by_order op None = refl
not3-by_order Eq (Some Less) = refl
not3-by_order NotEq (Some Less) = refl
not3-by_order Gt (Some Less) = refl
not3-by_order Gte (Some Less) = refl
not3-by_order Lt (Some Less) = refl
not3-by_order Lte (Some Less) = refl
not3-by_order _ _ = refl

not3-on_known : (rule other : Val → Val → Val) (a b : Val) → not3 (rule a b) ≡ other a b → not3 (on_known rule a b) ≡ on_known other a b
not3-on_known rule other fault b h = refl
not3-on_known rule other null_val fault h = refl
not3-on_known rule other (bool_val x) fault h = refl
not3-on_known rule other (int_val p x) fault h = refl
not3-on_known rule other (text_val x) fault h = refl
not3-on_known rule other (list_val x) fault h = refl
not3-on_known rule other (struct_val x) fault h = refl
not3-on_known rule other null_val b h = refl
not3-on_known rule other (bool_val x) null_val h = refl
not3-on_known rule other (int_val p x) null_val h = refl
not3-on_known rule other (text_val x) null_val h = refl
not3-on_known rule other (list_val x) null_val h = refl
not3-on_known rule other (struct_val x) null_val h = refl
not3-on_known rule other a b h = h

pub not3-compare3 : (op : CompareOperator) (a b : Val) → not3 (compare3 op a b) ≡ compare3 (inverse_comparison op) a b
not3-compare3 op a b = not3-on_known (compared op) (compared (inverse_comparison op)) a b (not3-by_order op (order a b))

pub inverse_negates : InverseNegates
inverse_negates Operator.Eq = not3-compare3 Eq
inverse_negates Operator.NotEq = not3-compare3 NotEq
inverse_negates Operator.Gt = not3-compare3 Gt
inverse_negates Operator.Gte = not3-compare3 Gte
inverse_negates Operator.Lt = not3-compare3 Lt
inverse_negates Operator.Lte = not3-compare3 Lte
inverse_negates Operator.And = tt
inverse_negates Operator.Or = tt
inverse_negates Operator.Add = tt
inverse_negates Operator.Sub = tt

-- a comparison as an operator of an expression means the comparison
pub binary3-operator_of : (op : CompareOperator) (a b : Val) → binary3 (operator_of op) a b ≡ compare3 op a b
binary3-operator_of Eq a b = refl
binary3-operator_of NotEq a b = refl
binary3-operator_of Gt a b = refl
binary3-operator_of Gte a b = refl
binary3-operator_of Lt a b = refl
binary3-operator_of Lte a b = refl

pub range_means : RangeMeansItsComparisons
unfolding mean
range_means t slots row e lower upper options =
    let v = mean t slots row e in
    let l = mean t slots row lower in
    let u = mean t slots row upper in
    sym (ap (λ (x : Val). and3 x (binary3 (operator_of (bound_operator options.upper_strict)) v u)) (binary3-operator_of (bound_operator options.lower_strict) l v)
    ∙ ap (and3 (compare3 (bound_operator options.lower_strict) l v)) (binary3-operator_of (bound_operator options.upper_strict) v u))

-- The tables of the operators.
use Rattle.std.specs.Prelude.{ℕ, zero, suc, Option, Some, None, option_map, unwrap_or, ℤ, pos, negsuc}
use Rattle.vx_dtype.specs.declared.CompareOperator.{CompareOperator}
use Rattle.vx_dtype.specs.declared.BetweenOptions.{BetweenOptions}
use Rattle.vx_dtype.specs.Order.{bound_operator, swapped_comparison}
use Rattle.vx_expr.specs.declared.operators.Operator.{Operator}
use Rattle.vx_expr.specs.Trees.{Tree, binary}

-- the number of an operator
abbrev pub operator_number : Operator → ℕ
operator_number Operator.Eq = 0
operator_number Operator.NotEq = 1
operator_number Operator.Gt = 2
operator_number Operator.Gte = 3
operator_number Operator.Lt = 4
operator_number Operator.Lte = 5
operator_number Operator.And = 6
operator_number Operator.Or = 7
operator_number Operator.Add = 8
operator_number Operator.Sub = 9

-- the operator of a number, none from 10 on
abbrev pub operator_numbered : ℕ → Option Operator
operator_numbered zero = Some Operator.Eq
operator_numbered (suc zero) = Some Operator.NotEq
operator_numbered (suc (suc zero)) = Some Operator.Gt
operator_numbered (suc (suc (suc zero))) = Some Operator.Gte
operator_numbered (suc (suc (suc (suc zero)))) = Some Operator.Lt
operator_numbered (suc (suc (suc (suc (suc zero))))) = Some Operator.Lte
operator_numbered (suc (suc (suc (suc (suc (suc zero)))))) = Some Operator.And
operator_numbered (suc (suc (suc (suc (suc (suc (suc zero))))))) = Some Operator.Or
operator_numbered (suc (suc (suc (suc (suc (suc (suc (suc zero)))))))) = Some Operator.Add
operator_numbered (suc (suc (suc (suc (suc (suc (suc (suc (suc zero))))))))) = Some Operator.Sub
operator_numbered (suc (suc (suc (suc (suc (suc (suc (suc (suc (suc n)))))))))) = None

-- the operator of an integer, none below 0 and from 10 on
abbrev pub operator_of_integer : ℤ → Option Operator
operator_of_integer (pos n) = operator_numbered n
operator_of_integer (negsuc n) = None

-- the comparison that an operator is, none for the last four
abbrev pub comparison_of : Operator → Option CompareOperator
comparison_of Operator.Eq = Some CompareOperator.Eq
comparison_of Operator.NotEq = Some CompareOperator.NotEq
comparison_of Operator.Gt = Some CompareOperator.Gt
comparison_of Operator.Gte = Some CompareOperator.Gte
comparison_of Operator.Lt = Some CompareOperator.Lt
comparison_of Operator.Lte = Some CompareOperator.Lte
comparison_of _ = None

-- the operator that a comparison is
abbrev pub operator_of : CompareOperator → Operator
operator_of CompareOperator.Eq = Operator.Eq
operator_of CompareOperator.NotEq = Operator.NotEq
operator_of CompareOperator.Gt = Operator.Gt
operator_of CompareOperator.Gte = Operator.Gte
operator_of CompareOperator.Lt = Operator.Lt
operator_of CompareOperator.Lte = Operator.Lte

-- the comparison that is true where this one is false
abbrev pub inverse_comparison : CompareOperator → CompareOperator
inverse_comparison CompareOperator.Eq = CompareOperator.NotEq
inverse_comparison CompareOperator.NotEq = CompareOperator.Eq
inverse_comparison CompareOperator.Gt = CompareOperator.Lte
inverse_comparison CompareOperator.Gte = CompareOperator.Lt
inverse_comparison CompareOperator.Lt = CompareOperator.Gte
inverse_comparison CompareOperator.Lte = CompareOperator.Gt

-- the operator of the inverse comparison, none for the last four
abbrev pub inverse_of : Operator → Option Operator
inverse_of op = option_map (λ c. operator_of (inverse_comparison c)) (comparison_of op)

-- `and` and `or` exchanged, none for the rest
abbrev pub logical_inverse_of : Operator → Option Operator
logical_inverse_of Operator.And = Some Operator.Or
logical_inverse_of Operator.Or = Some Operator.And
logical_inverse_of _ = None

-- the operator that means the same with its operands exchanged; a difference is given back as it is
abbrev pub swapped : Operator → Operator
swapped op = unwrap_or (option_map (λ c. operator_of (swapped_comparison c)) (comparison_of op)) op

-- the two comparisons that a range stands for: the lower bound before the value, and the value before the upper bound
abbrev pub range_as_binary : Tree → Tree → Tree → BetweenOptions → Tree
range_as_binary e lower upper options =
    binary
    (binary lower (operator_of (bound_operator options.lower_strict)) e)
    Operator.And
    (binary e (operator_of (bound_operator options.upper_strict)) upper)

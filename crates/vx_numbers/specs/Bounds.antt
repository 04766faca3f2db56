-- The least and the greatest of numbers, null at some places.
use Rattle.std.specs.Prelude.{ℤ, Option, Some, None, List, [], ◌∷◌, cond}
use Rattle.std.specs.Ordering.{int_cmp}
use Rattle.vx_dtype.specs.declared.CompareOperator.{CompareOperator}
use Rattle.vx_dtype.specs.Order.{meets}

-- the one of two numbers that stands so to the other; where one is null, the other
abbrev pub first_number : CompareOperator → Option ℤ → Option ℤ → Option ℤ
first_number op None b = b
first_number op a None = a
first_number op (Some a) (Some b) = cond (meets op (int_cmp a b)) (Some a) (Some b)

-- the number that stands so to all others; none where all are null
abbrev pub first_among : CompareOperator → List (Option ℤ) → Option ℤ
first_among op [] = None
first_among op (n ∷ ns) = first_number op n (first_among op ns)

-- the least and the greatest number, none where all are null
abbrev pub least_number : List (Option ℤ) → Option ℤ
least_number ns = first_among CompareOperator.Lte ns

abbrev pub greatest_number : List (Option ℤ) → Option ℤ
greatest_number ns = first_among CompareOperator.Gte ns

-- For the checker: no public clause cites this. Sums and differences by one name, and numbers that are null where their type has no null.
use Rattle.std.specs.Prelude.{ℤ, Bool, true, false, not, ◌&&◌, List, [], ◌∷◌, Option, Some, None}
use Rattle.vx_dtype.specs.declared.Nullability.{Nullability}
use Rattle.vx_dtype.specs.TypeRules.{is_nullable}
use Rattle.vx_dtype.specs.Values.{Val}
use Rattle.vx_dtype.specs.Sums.{add3, sub3}
use Rattle.vx_numbers.specs.Numbers.{sums, differences}
use Rattle.vx_kernels.specs.declared.sums.Total.{Total}
use Rattle.vx_kernels.specs.declared.sums.Total.TheVariants.{Sum, Difference}

-- the sum or the difference of two values
abbrev pub total3 : Total → Val → Val → Val
total3 Sum = add3
total3 Difference = sub3

-- the sums or the differences of two lists of numbers, place by place
abbrev pub totals : Total → List (Option ℤ) → List (Option ℤ) → List (Option ℤ)
totals Sum = sums
totals Difference = differences

-- whether one of the numbers is null
abbrev pub has_null : List (Option ℤ) → Bool
has_null [] = false
has_null (None ∷ is) = true
has_null (Some i ∷ is) = has_null is

-- whether one of the numbers is null where types of this nullability have no null
abbrev pub stray_null : Nullability → List (Option ℤ) → Bool
stray_null n ns = not (is_nullable n) && has_null ns

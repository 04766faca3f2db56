-- Lists of numbers of one integer type, null at some places.
use Rattle.std.specs.Prelude.{ℤ, ◌-ℤ◌, ◌+ℤ◌, Bool, true, false, Option, Some, None, List, cond}
use Rattle.std.specs.List.{list_all}
use Rattle.std.specs.Option.{option_map}
use Rattle.std.specs.Ordering.{int_cmp}
use Rattle.std.specs.Simd.Lanes.{zip2}
use Rattle.vx_dtype.specs.declared.PType.{PType}
use Rattle.vx_dtype.specs.Fits.{in_range}
use Rattle.vx_dtype.specs.declared.CompareOperator.{CompareOperator}
use Rattle.vx_dtype.specs.Order.{meets}

-- numbers of one integer type, null where there is none
pub record NumberList : Type 0 where
  pub ptype : PType
  pub numbers : List (Option ℤ)

-- the list of these numbers
abbrev pub number_list : PType → List (Option ℤ) → NumberList
number_list p ns = record { ptype = p; numbers = ns }

-- whether what stands at a place is null or a number of the type
abbrev pub fits_ptype : PType → Option ℤ → Bool
fits_ptype p None = true
fits_ptype p (Some i) = in_range p i

-- whether each number is one of the type
abbrev pub all_in_range : PType → List (Option ℤ) → Bool
all_in_range p ns = list_all (fits_ptype p) ns

-- the number, if it is one of the type
abbrev pub within : PType → ℤ → Option ℤ
within p i = cond (in_range p i) (Some i) None

-- what a rule of two numbers gives; null beside anything is null
abbrev pub on_both : {X : Type 0} → (ℤ → ℤ → X) → Option ℤ → Option ℤ → Option X
on_both rule (Some a) (Some b) = Some (rule a b)
on_both rule _ _ = None

-- the comparison of two numbers
abbrev pub compared : CompareOperator → Option ℤ → Option ℤ → Option Bool
compared op = on_both (λ a b. meets op (int_cmp a b))

-- the sums and the differences of two lists, place by place
abbrev pub sums : List (Option ℤ) → List (Option ℤ) → List (Option ℤ)
sums ls rs = zip2 (on_both (λ a b. a +ℤ b)) ls rs

abbrev pub differences : List (Option ℤ) → List (Option ℤ) → List (Option ℤ)
differences ls rs = zip2 (on_both (λ a b. a -ℤ b)) ls rs

-- the total, if it is null or a number of the type
abbrev pub total_in : PType → Option ℤ → Option (Option ℤ)
total_in p None = Some None
total_in p (Some i) = option_map Some (within p i)

-- the numbers, if each is one of the type
abbrev pub if_in_range : PType → List (Option ℤ) → Option (List (Option ℤ))
if_in_range p ns = cond (all_in_range p ns) (Some ns) None

-- whether there is no number
abbrev pub null_test : Option ℤ → Option Bool
null_test None = Some true
null_test (Some i) = Some false

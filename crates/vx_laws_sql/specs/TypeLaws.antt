-- What the common type of numbers of two integer types is.
use Rattle.std.specs.Prelude.{◌≡◌, ℤ, true, ◌&&◌, Some, None, MatchOption}
use Rattle.vx_dtype.specs.declared.PType.{PType}
use Rattle.vx_dtype.specs.Fits.{in_range}
use Rattle.vx_laws_sql.specs.CommonTypes.{holds_type, common_type, common_of_three, first_apart}

-- a number of a type is one of each type that holds it
abbrev pub HeldNumbersFit : Type 0
HeldNumbersFit = (p q : PType) (i : ℤ) → holds_type p q ≡ true → in_range q i ≡ true → in_range p i ≡ true

-- the common type holds both types
abbrev pub CommonTypeHoldsBoth : Type 0
CommonTypeHoldsBoth = (p q c : PType) → common_type p q ≡ Some c → (holds_type c p ≡ true) × (holds_type c q ≡ true)

-- a type that holds both holds their common type, which there is
abbrev pub CommonTypeIsNarrowest : Type 0
CommonTypeIsNarrowest =
    (p q r : PType) → holds_type r p && holds_type r q ≡ true → MatchOption (common_type p q) ⊥ (λ c. holds_type r c ≡ true)

-- of three types without a common type there are two that have none: those that are named
abbrev pub TypesApartHaveNone : Type 0
TypesApartHaveNone = (p q r : PType) → common_of_three p q r ≡ None → common_type (first_apart p q r).0 (first_apart p q r).1 ≡ None

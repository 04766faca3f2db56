-- Equality of lists of numbers.
use Rattle.std.specs.Prelude.{◌≡◌, ℤ, Bool, true, false, ◌&&◌, Option, Some, None, refl, Decides}
use Rattle.std.proofs.Common.{ap}
use Rattle.std.specs.Cmp.{IsEquivalence, decided, signed_Decides}
use Rattle.std.specs.Cmp.Lexicographic.{pointwise}
use Rattle.std.specs.Ordering.{int_eq}
use Rattle.std.proofs.lemmas.Slice.Eq.{slice_eq-Decides}
use Rattle.vx_dtype.specs.TypeRules.{same_ptype}
use Rattle.vx_dtype.specs.EqualLaws.{ptype_decides}
use Rattle.vx_numbers.specs.Numbers.{NumberList, number_list}

-- whether two numbers are one, or both null
abbrev pub number_eq : Option ℤ → Option ℤ → Bool
number_eq None None = true
number_eq (Some a) (Some b) = int_eq a b
number_eq _ _ = false

-- whether two lists have one type and the same numbers
abbrev pub numbers_eq : NumberList → NumberList → Bool
numbers_eq l r = same_ptype l.ptype r.ptype && pointwise number_eq l.numbers r.numbers

pub number_decides : (a b : Option ℤ) → Decides (number_eq a b) (a ≡ b)
number_decides None None = (λ e. refl, λ e. refl)
number_decides None (Some b) = (λ e. cc, λ e. cc)
number_decides (Some a) None = (λ e. cc, λ e. cc)
number_decides (Some a) (Some b) =
    let d = signed_Decides a b in
    (λ e. ap Some (d.0 e), λ e. d.1 (let same : a ≡ b = cc in same))

-- a list is its type and its numbers
pub both_decide : (l r : NumberList) (x y : Bool) → Decides x (l.ptype ≡ r.ptype) → Decides y (l.numbers ≡ r.numbers) → Decides (x && y) (l ≡ r)
both_decide l r true y p q =
    (λ e. let t = p.0 refl in let n = q.0 e in λ k. number_list (t k) (n k), λ e. q.1 (ap (λ (list : NumberList). list.numbers) e))
both_decide l r false y p q = (λ e. cc, λ e. p.1 (ap (λ (list : NumberList). list.ptype) e))

pub numbers_decides : (l r : NumberList) → Decides (numbers_eq l r) (l ≡ r)
numbers_decides l r =
    both_decide l r (same_ptype l.ptype r.ptype) (pointwise number_eq l.numbers r.numbers) (ptype_decides l.ptype r.ptype)
    (slice_eq-Decides number_decides l.numbers r.numbers (pointwise number_eq l.numbers r.numbers) refl)

pub numbers_eq_equiv : IsEquivalence numbers_eq
numbers_eq_equiv = decided numbers_eq numbers_decides

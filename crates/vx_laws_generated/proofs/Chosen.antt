-- The least and the greatest of the numbers that there are.
use Rattle.std.proofs.Common.{◌≡◌, refl, subst, ℕ, zero, suc, ◌+◌, ◌<◌, ◌≤◌, min, max, List, [], ◌∷◌, map, Option, Some, None, arith}
use Rattle.std.specs.List.{range_with_len}
use Rattle.std.proofs.lemmas.Option.{same_Some}
use Rattle.vx_laws_generated.specs.GeneratedTable.{chosen, chosen_among}

-- what stands so to a number that there is
abbrev pub OnNumber : (ℕ → Type 0) → Option ℕ → Type 0
OnNumber P None = Unit {0}
OnNumber P (Some n) = P n

-- to each number that there is
abbrev pub OnNumbers : (ℕ → Type 0) → List (Option ℕ) → Type 0
OnNumbers P [] = Unit {0}
OnNumbers P (n ∷ ns) = OnNumber P n × OnNumbers P ns

on-number : (P Q : ℕ → Type 0) (n : Option ℕ) → ((k : ℕ) → P k → Q k) → OnNumber P n → OnNumber Q n
on-number P Q None f h = tt
on-number P Q (Some n) f h = f n h

pub on-numbers : (P Q : ℕ → Type 0) (ns : List (Option ℕ)) → ((k : ℕ) → P k → Q k) → OnNumbers P ns → OnNumbers Q ns
on-numbers P Q [] f h = tt
on-numbers P Q (n ∷ ns) f h = (on-number P Q n f h.0, on-numbers P Q ns f h.1)

-- a rule that chooses a number which stands so to both, where this goes on from one number to the next
pub record IsChoice (rule : ℕ → ℕ → ℕ) (R : ℕ → ℕ → Type 0) : Type 0 where
  pub left : (n m : ℕ) → R (rule n m) n
  pub right : (n m : ℕ) → R (rule n m) m
  pub itself : (n : ℕ) → R n n
  pub through : (n m k : ℕ) → R n m → R m k → R n k

pub least-is-choice : IsChoice min (λ n m. n ≤ m)
least-is-choice = record {
  left = λ n m. omega arith;
  right = λ n m. omega arith;
  itself = λ n. omega arith;
  through = λ n m k p q. omega arith;
}

pub greatest-is-choice : IsChoice max (λ n m. m ≤ n)
greatest-is-choice = record {
  left = λ n m. omega arith;
  right = λ n m. omega arith;
  itself = λ n. omega arith;
  through = λ n m k p q. omega arith;
}

-- where none is chosen there is none
none-chosen : (rule : ℕ → ℕ → ℕ) (P : ℕ → Type 0) (ns : List (Option ℕ)) → chosen_among rule ns ≡ None → OnNumbers P ns
none-chosen rule P [] h = tt
none-chosen rule P (None ∷ ns) h = (tt, none-chosen rule P ns h)
none-chosen rule P (Some n ∷ ns) h = absurd (by (chosen_among rule ns) h)
  where
    by : (o : Option ℕ) → chosen rule (Some n) o ≡ None → ⊥
    by None e = cc
    by (Some m) e = cc

-- the chosen number stands so to each
pub chosen-stands : (rule : ℕ → ℕ → ℕ) (R : ℕ → ℕ → Type 0) → IsChoice rule R → (ns : List (Option ℕ)) (m : ℕ) → chosen_among rule ns ≡ Some m
    → OnNumbers (R m) ns
chosen-stands rule R choice [] m h = tt
chosen-stands rule R choice (None ∷ ns) m h = (tt, chosen-stands rule R choice ns m h)
chosen-stands rule R choice (Some n ∷ ns) m h = by (chosen_among rule ns) refl h (chosen-stands rule R choice ns)
  where
    by : (o : Option ℕ) → chosen_among rule ns ≡ o → chosen rule (Some n) o ≡ Some m → ((j : ℕ) → chosen_among rule ns ≡ Some j → OnNumbers (R j) ns)
        → R m n × OnNumbers (R m) ns
    by None e k stands =
        let same : n ≡ m = same_Some n m k in
        (subst (λ (j : ℕ). R j n) same (choice.itself n), none-chosen rule (R m) ns e)
    by (Some j) e k stands =
        let same : rule n j ≡ m = same_Some (rule n j) m k in (
          subst (λ (i : ℕ). R i n) same (choice.left n j),
          on-numbers (R j) (R m) ns (λ i g. choice.through m j i (subst (λ (i : ℕ). R i j) same (choice.right n j)) g) (stands j e),
        )

-- what holds of each number holds of the chosen one, where the rule keeps it
pub chosen-keeps : (rule : ℕ → ℕ → ℕ) (P : ℕ → Type 0) → ((n m : ℕ) → P n → P m → P (rule n m)) → (ns : List (Option ℕ)) → OnNumbers P ns
    → OnNumber P (chosen_among rule ns)
chosen-keeps rule P keeps [] h = tt
chosen-keeps rule P keeps (n ∷ ns) h = by n (chosen_among rule ns) h.0 (chosen-keeps rule P keeps ns h.1)
  where
    by : (n m : Option ℕ) → OnNumber P n → OnNumber P m → OnNumber P (chosen rule n m)
    by None m p q = q
    by (Some n) None p q = p
    by (Some n) (Some m) p q = keeps n m p q

-- what holds of the number of each row in a range
pub on-range : (P : ℕ → Type 0) (f : ℕ → Option ℕ) (a n : ℕ) → ((i : ℕ) → i < a + n → OnNumber P (f i)) → OnNumbers P (map f (range_with_len a n))
on-range P f a zero h = tt
on-range P f a (suc n) h = (h a (omega arith), on-range P f (a + 1) n (λ i k. h i (omega arith)))

-- Tests of the numbers from one on, and cells row by row.
use Rattle.std.proofs.Common.{◌≡◌, ℕ, zero, suc, ◌+◌, ◌-◌, ◌<◌, ◌≤◌, List, [], ◌∷◌, ◌++◌, Bool, true, false, ◌&&◌, ◌∙◌, ap, arith}
use Rattle.std.specs.List.{list_all, range_with_len}
use Rattle.std.proofs.lemmas.Bool.{and_parts}
use Rattle.std.proofs.lemmas.List.FromFn.{map-range_with_len_more}
use Rattle.vx_arrays.specs.Arrays.{cell_at, cells}

-- the numbers from i on, below n
pub range_more : (i n : ℕ) → i < n → range_with_len i (n - i) ≡ i ∷ range_with_len (i + 1) (n - (i + 1))
range_more i n h = let e : n - i ≡ suc (n - (i + 1)) = omega arith in ap (range_with_len i) e

pub range_end : (i n : ℕ) → n ≤ i → range_with_len i (n - i) ≡ []
range_end i n h = let e : n - i ≡ 0 = omega arith in ap (range_with_len i) e

pub all_more : (p : ℕ → Bool) (i n : ℕ) → i < n → list_all p (range_with_len i (n - i)) ≡ (p i && list_all p (range_with_len (i + 1) (n - (i + 1))))
all_more p i n h = ap (list_all p) (range_more i n h)

pub all_end : (p : ℕ → Bool) (i n : ℕ) → n ≤ i → list_all p (range_with_len i (n - i)) ≡ true
all_end p i n h = ap (list_all p) (range_end i n h)

-- one that fails makes all fail
pub all_fails : (p : ℕ → Bool) (i n : ℕ) (b : Bool) → i < n → b ≡ list_all p (range_with_len i (n - i)) → p i ≡ false → b ≡ false
all_fails p i n b h e f = e ∙ all_more p i n h ∙ ap (λ x. x && list_all p (range_with_len (i + 1) (n - (i + 1)))) f

-- one that holds leaves the others
pub all_holds : (p : ℕ → Bool) (i n : ℕ) (b : Bool) → i < n → b ≡ list_all p (range_with_len i (n - i)) → p i ≡ true
    → b ≡ list_all p (range_with_len (i + 1) (n - (i + 1)))
all_holds p i n b h e t = e ∙ all_more p i n h ∙ ap (λ x. x && list_all p (range_with_len (i + 1) (n - (i + 1)))) t

-- each of the numbers holds where all do
pub all_at : (p : ℕ → Bool) (a n i : ℕ) → list_all p (range_with_len a n) ≡ true → i < n → p (a + i) ≡ true
all_at p a zero i e h = absurd (omega arith)
all_at p a (suc n) zero e h =
    let first : p a ≡ true = (and_parts (p a) (list_all p (range_with_len (a + 1) n)) e).0 in
    let same : a + 0 ≡ a = omega arith in
    ap p same ∙ first
all_at p a (suc n) (suc i) e h =
    let rest : list_all p (range_with_len (a + 1) n) ≡ true = (and_parts (p a) (list_all p (range_with_len (a + 1) n)) e).1 in
    let same : a + suc i ≡ a + 1 + i = omega arith in
    ap p same ∙ all_at p (a + 1) n i rest (omega arith)

pub all_below : (p : ℕ → Bool) (n i : ℕ) → list_all p (range_with_len 0 n) ≡ true → i < n → p i ≡ true
all_below p n i e h = let same : i ≡ 0 + i = omega arith in ap p same ∙ all_at p 0 n i e h

-- one cell more
pub cells_more : {A : Type 0} (validity : List ℕ) (value : ℕ → A) (k : ℕ)
    → cells validity value (k + 1) ≡ cells validity value k ++ cell_at validity value k ∷ []
cells_more validity value k = map-range_with_len_more (cell_at validity value) 0 k k (omega arith)

-- Numbers in a row, and lists that are made of them.
use Rattle.std.proofs.Common.{◌≡◌, ◌∙◌, ap, refl, ℕ, zero, suc, ◌+◌, ◌<◌, Bool, true, false, cond, List, [], ◌∷◌, ◌++◌, map, Some, slice_get, filter, arith}
use Rattle.std.specs.List.{range_with_len, list_all}
use Rattle.std.proofs.lemmas.Bool.{and_from}
use Rattle.vx_semantics.specs.Tables.{numbered_from}

-- the first of them and then the others
pub range-append : (a m n : ℕ) → range_with_len a (m + n) ≡ range_with_len a m ++ range_with_len (a + m) n
range-append a zero n =
    let none : zero + n ≡ n = omega arith in
    let here : a ≡ a + zero = omega arith in
    ap (range_with_len a) none ∙ ap (λ (k : ℕ). range_with_len k n) here
range-append a (suc m) n =
    let more : suc m + n ≡ suc (m + n) = omega arith in
    let here : a + 1 + m ≡ a + suc m = omega arith in
    ap (range_with_len a) more
    ∙ ap (λ (ks : List ℕ). a ∷ ks) (range-append (a + 1) m n ∙ ap (λ (k : ℕ). range_with_len (a + 1) m ++ range_with_len k n) here)

-- all but the last, and the last
pub range-last : (a n : ℕ) → range_with_len a (suc n) ≡ range_with_len a n ++ (a + n) ∷ []
range-last a n = let more : suc n ≡ n + 1 = omega arith in ap (range_with_len a) more ∙ range-append a n 1

-- a test that passes at each
pub all-of-range : {X : Type 0} (p : X → Bool) (f : ℕ → X) (a n : ℕ) → ((i : ℕ) → i < a + n → p (f i) ≡ true) → list_all p (map f (range_with_len a n)) ≡ true
all-of-range p f a zero h = refl
all-of-range p f a (suc n) h =
    and_from (p (f a)) (list_all p (map f (range_with_len (a + 1) n))) (h a (omega arith)) (all-of-range p f (a + 1) n (λ i k. h i (omega arith)))

-- what stands at a place
pub slice-of-range : {X : Type 0} (f : ℕ → X) (a n i : ℕ) → i < n → slice_get (map f (range_with_len a n)) i ≡ Some (f (a + i))
slice-of-range f a zero i h = absurd (omega (arith, h))
slice-of-range f a (suc n) zero h = let here : a ≡ a + zero = omega arith in ap (λ (k : ℕ). Some (f k)) here
slice-of-range f a (suc n) (suc i) h =
    let here : a + 1 + i ≡ a + suc i = omega arith in
    slice-of-range f (a + 1) n i (omega arith) ∙ ap (λ (k : ℕ). Some (f k)) here

-- the numbers of what passes a test by its number
filter-step : (s t : Bool) (x : ℕ × ℕ) (xs : List (ℕ × ℕ)) (ys : List ℕ) → s ≡ t → map (λ (b : ℕ × ℕ). b.0) xs ≡ ys
    → map (λ (b : ℕ × ℕ). b.0) (cond s (x ∷ xs) xs) ≡ cond t (x.0 ∷ ys) ys
filter-step true true x xs ys e h = ap (λ (ks : List ℕ). x.0 ∷ ks) h
filter-step false false x xs ys e h = h
filter-step true false x xs ys e h = let no : ⊥ = cc in absurd no
filter-step false true x xs ys e h = let no : ⊥ = cc in absurd no

pub filter-numbered : (p q : ℕ → Bool) (g : ℕ → ℕ) (a n : ℕ) → ((i : ℕ) → i < a + n → p i ≡ q i)
    → map (λ (b : ℕ × ℕ). b.0) (filter (λ (b : ℕ × ℕ). p b.0) (numbered_from a (map g (range_with_len a n)))) ≡ filter q (range_with_len a n)
filter-numbered p q g a zero h = refl
filter-numbered p q g a (suc n) h =
    let next : suc a ≡ a + 1 = omega arith in
    filter-step (p a) (q a) (a, g a) (filter (λ (b : ℕ × ℕ). p b.0) (numbered_from (suc a) (map g (range_with_len (a + 1) n))))
    (filter q (range_with_len (a + 1) n)) (h a (omega arith))
    (ap (λ (k : ℕ). map (λ (b : ℕ × ℕ). b.0) (filter (λ (b : ℕ × ℕ). p b.0) (numbered_from k (map g (range_with_len (a + 1) n))))) next
    ∙ filter-numbered p q g (a + 1) n (λ i k. h i (omega arith)))

-- Runs: so many items of a list from a place on, and so many numbers from one on.
use Rattle.std.proofs.Common.{◌≡◌, ℕ, zero, suc, ◌+◌, ◌-◌, ◌<◌, ◌≤◌, refl, ap, sym, ◌∙◌, Bool, true, false, List, [], ◌∷◌, map, take, drop, length, length-take, length-drop, arith}
use Rattle.std.specs.Prelude.{slice_get}
use Rattle.std.specs.List.{range_with_len}
use Rattle.std.proofs.Math.ListN.{replicate}
use Rattle.vx_semantics.specs.Tables.{numbered_from}

-- ---- items

pub run-length : {X : Type 0} (xs : List X) (first count : ℕ) → first + count ≤ length xs → length (take count (drop first xs)) ≡ count
run-length xs first count h =
    let cut = length-take count (drop first xs) in
    let rest = length-drop first xs in
    omega (arith, cut, rest, h)

taken : {X : Type 0} (n : ℕ) (xs : List X) (i : ℕ) → i < n → slice_get (take n xs) i ≡ slice_get xs i
taken zero xs i h = absurd (omega (arith, h))
taken (suc n) [] i h = refl
taken (suc n) (x ∷ xs) zero h = refl
taken (suc n) (x ∷ xs) (suc i) h = taken n xs i (omega (arith, h))

dropped : {X : Type 0} (n : ℕ) (xs : List X) (i j : ℕ) → n + i ≡ j → slice_get (drop n xs) i ≡ slice_get xs j
dropped zero xs i j e = let same : i ≡ j = omega (arith, e) in ap (slice_get xs) same
dropped (suc n) [] i j e = refl
dropped (suc n) (x ∷ xs) i zero e = absurd (omega (arith, e))
dropped (suc n) (x ∷ xs) i (suc j) e = dropped n xs i j (omega (arith, e))

pub run-get : {X : Type 0} (xs : List X) (first count i j : ℕ) → i < count → first + i ≡ j → slice_get (take count (drop first xs)) i ≡ slice_get xs j
run-get xs first count i j h e = taken count (drop first xs) i h ∙ dropped first xs i j e

-- ---- numbers

-- what is made of the numbers from 0 on is what is made of those from another on, number by number
pub same-runs : {X : Type 0} (f g : ℕ → X) (first total : ℕ) → ((i j : ℕ) → i < total → first + i ≡ j → f i ≡ g j)
    → (n i j : ℕ) → i + n ≡ total → first + i ≡ j → map f (range_with_len i n) ≡ map g (range_with_len j n)
same-runs f g first total h zero i j e k = refl
same-runs f g first total h (suc n) i j e k =
    let here = h i j (omega (arith, e)) k in
    let rest = same-runs f g first total h n (i + 1) (j + 1) (omega (arith, e)) (omega (arith, k)) in
    λ t. here t ∷ rest t

-- a test that no number passes, at each of a run
pub none-in-run : (test : ℕ → Bool) → ((n : ℕ) → test n ≡ false) → (first count : ℕ) → replicate count false ≡ map test (range_with_len first count)
none-in-run test h first zero = refl
none-in-run test h first (suc count) =
    let rest = none-in-run test h (first + 1) count in
    λ i. sym (h first) i ∷ rest i

-- a test at the numbers of items is one at a run
pub numbered-run : {X : Type 0} (test : ℕ → Bool) (k : ℕ) (xs : List X) → map test (range_with_len k (length xs)) ≡ map (λ (b : ℕ × X). test b.0) (numbered_from k xs)
numbered-run test k [] = refl
numbered-run {X} test k (x ∷ xs) =
    let next : k + 1 ≡ suc k = omega arith in
    let rest = ap (λ (m : ℕ). map test (range_with_len m (length xs))) next ∙ numbered-run test (suc k) xs in
    ap (λ (bs : List Bool). test k ∷ bs) rest

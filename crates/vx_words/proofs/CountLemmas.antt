-- How many bits are set, and how many truths are true.
use Rattle.std.proofs.Common.{◌≡◌, ℕ, suc, zero, ◌+◌, ◌-◌, ◌*◌, ◌/◌, ◌%◌, ◌^◌, ◌<◌, ◌≤◌, List, [], ◌∷◌, ◌++◌, get_or, length, map, Bool, false, cond, eqb, refl, ◌∙◌, sym, ap, subst, arith, w64, Fits}
use Rattle.std.proofs.lemmas.List.Sums.{sum_by-cons, sum_by-append, count_by-le-length}
use Rattle.std.proofs.lemmas.Nat.{ones-le, shr_below}
use Rattle.std.proofs.lemmas.Nat.Bits.{bit_at-suc, bit_at_lowest}
use Rattle.std.specs.List.{range_with_len}
use Rattle.std.specs.Prelude.{count_by, count_ones}
use lib.Count.{ones, ones_step}
use Rattle.vx_words.specs.Words.{word_bit, bit_of, truth_of_words}
use Rattle.vx_words.specs.Truths.{AreTidy, truths_of_words, is_true}
use Rattle.vx_words.proofs.NextLemmas.{at_word, true_of_bits}
use Rattle.vx_words.proofs.TruthLemmas.{bare_of_tidy, length-truths}

-- ---- counts over ranges
count_of_map : {X Y : Type 0} (p : Y → Bool) (f : X → Y) (xs : List X) → count_by p (map f xs) ≡ count_by (λ x. p (f x)) xs
count_of_map p f [] = refl
count_of_map p f (x ∷ xs) =
    sum_by-cons (λ y. cond (p y) 1 0) (f x) (map f xs)
    ∙ ap (λ n. cond (p (f x)) 1 0 + n) (count_of_map p f xs)
    ∙ sym (sum_by-cons (λ y. cond (p (f y)) 1 0) x xs)

count_of_none : (p : ℕ → Bool) (a n : ℕ) → ((i : ℕ) → a ≤ i → p i ≡ false) → count_by p (range_with_len a n) ≡ 0
count_of_none p a zero none = refl
count_of_none p a (suc n) none =
    sum_by-cons (λ i. cond (p i) 1 0) a (range_with_len (a + 1) n)
    ∙ (λ k. cond (none a (omega arith) k) 1 0 + count_of_none p (a + 1) n (λ i h. none i (omega arith)) k)

range_split : (a m n : ℕ) → range_with_len a (m + n) ≡ range_with_len a m ++ range_with_len (a + m) n
range_split a zero n =
    let none : 0 + n ≡ n = omega arith in
    let here : a ≡ a + 0 = omega arith in
    ap (range_with_len a) none ∙ ap (λ x. range_with_len x n) here
range_split a (suc m) n =
    let more : suc m + n ≡ suc (m + n) = omega arith in
    let next : a + 1 + m ≡ a + suc m = omega arith in
    ap (range_with_len a) more
    ∙ ap (λ xs. a ∷ xs) (range_split (a + 1) m n)
    ∙ ap (λ x. a ∷ (range_with_len (a + 1) m ++ range_with_len x n)) next

count_split : (p : ℕ → Bool) (m n : ℕ) → count_by p (range_with_len 0 (m + n)) ≡ count_by p (range_with_len 0 m) + count_by p (range_with_len m n)
count_split p m n =
    let from : 0 + m ≡ m = omega arith in
    ap (count_by p) (range_split 0 m n)
    ∙ sum_by-append (λ i. cond (p i) 1 0) (range_with_len 0 m) (range_with_len (0 + m) n)
    ∙ ap (λ x. count_by p (range_with_len 0 m) + count_by p (range_with_len x n)) from

-- ---- the bits of one word
lowest_of : (x : ℕ) → x < 2 → cond (eqb x 1) 1 0 ≡ x
lowest_of zero h = refl
lowest_of (suc zero) h = refl
lowest_of (suc (suc x)) h = absurd (omega arith)

-- so many bits of a number stand at these places
count_of_digits : (d x a : ℕ) (p : ℕ → Bool) → x < 2 ^ d → ((i : ℕ) → i < d → p (a + i) ≡ word_bit x i)
    → count_by p (range_with_len a d) ≡ ones x
count_of_digits zero x a p fits each = let none : ones x ≤ 0 = ones-le 0 x fits in omega arith
count_of_digits (suc d) x a p fits each =
    let here : a ≡ a + 0 = omega arith in
    let size : suc d ≡ d + 1 = omega arith in
    let first : p a ≡ eqb (x % 2) 1 = ap p here ∙ each 0 (omega arith) ∙ ap (λ y. eqb y 1) (bit_at_lowest x) in
    let rest : count_by p (range_with_len (a + 1) d) ≡ ones (x / 2) =
    count_of_digits d (x / 2) (a + 1) p (shr_below x d 1 (subst (λ m. x < 2 ^ m) size fits))
    (λ i h. let next : a + 1 + i ≡ a + suc i = omega arith in ap p next ∙ each (suc i) (omega arith) ∙ ap (λ y. eqb y 1) (bit_at-suc x i)) in
    sum_by-cons (λ i. cond (p i) 1 0) a (range_with_len (a + 1) d)
    ∙ (λ k. cond (first k) 1 0 + rest k)
    ∙ ap (λ y. y + ones (x / 2)) (lowest_of (x % 2) (omega arith))
    ∙ sym (ones_step x)

-- one word more
pub count_more : (ws : List ℕ) (k : ℕ) → Fits w64 (get_or ws k 0)
    → count_by (bit_of ws) (range_with_len 0 (64 * (k + 1)))
    ≡ count_by (bit_of ws) (range_with_len 0 (64 * k)) + count_ones (get_or ws k 0)
count_more ws k fits =
    let more : 64 * (k + 1) ≡ 64 * k + 64 = omega arith in
    ap (λ n. count_by (bit_of ws) (range_with_len 0 n)) more
    ∙ count_split (bit_of ws) (64 * k) 64
    ∙ ap (λ n. count_by (bit_of ws) (range_with_len 0 (64 * k)) + n)
    (count_of_digits 64 (get_or ws k 0) (64 * k) (bit_of ws) fits.fits (λ i h. at_word ws k i (64 * k + i) refl h))

-- the count so far and the next word are within the whole count
pub count_more_within : (ws : List ℕ) (k : ℕ) → k < length ws → Fits w64 (get_or ws k 0)
    → count_by (bit_of ws) (range_with_len 0 (64 * k)) + count_ones (get_or ws k 0)
    ≤ count_by (bit_of ws) (range_with_len 0 (64 * length ws))
count_more_within ws k h fits =
    let more = count_more ws k fits in
    let rest : ℕ = 64 * length ws - 64 * (k + 1) in
    let size : 64 * length ws ≡ 64 * (k + 1) + rest = omega arith in
    let whole = ap (λ n. count_by (bit_of ws) (range_with_len 0 n)) size ∙ count_split (bit_of ws) (64 * (k + 1)) rest in
    omega (arith, more, whole)

-- ---- from the bits of the values to truths
pub count_seen : (v b : List ℕ) (n : ℕ) → AreTidy n v b
    → count_by is_true (truths_of_words v b n) ≡ count_by (bit_of b) (range_with_len 0 (64 * length b))
count_seen v b n tidy =
    let long = tidy.values_length in
    let size : 64 * length b ≡ n + (64 * length b - n) = omega arith in
    let clear : (i : ℕ) → n ≤ i → bit_of b i ≡ false = λ i h. bare_of_tidy v b n tidy i (tidy.past i h) in
    let past : count_by (bit_of b) (range_with_len n (64 * length b - n)) ≡ 0 = count_of_none (bit_of b) n (64 * length b - n) clear in
    let shown : (i : ℕ) → is_true (truth_of_words v b i) ≡ bit_of b i = λ i. true_of_bits (bit_of v i) (bit_of b i) (bare_of_tidy v b n tidy i) in
    let all : count_by (bit_of b) (range_with_len 0 (64 * length b)) ≡ count_by (bit_of b) (range_with_len 0 n) + 0 =
    ap (λ m. count_by (bit_of b) (range_with_len 0 m)) size
    ∙ count_split (bit_of b) n (64 * length b - n)
    ∙ ap (λ m. count_by (bit_of b) (range_with_len 0 n) + m) past in
    count_of_map is_true (truth_of_words v b) (range_with_len 0 n)
    ∙ (λ k. count_by (λ i. shown i k) (range_with_len 0 n))
    ∙ omega (arith, all)

-- no more bits of the values are set than there are places
pub count_within : (v b ws : List ℕ) (n : ℕ) → AreTidy n v b → ws ≡ b → count_by (bit_of ws) (range_with_len 0 (64 * length ws)) ≤ n
count_within v b ws n tidy same =
    let words = ap (λ x. count_by (bit_of x) (range_with_len 0 (64 * length x))) same in
    let seen = count_seen v b n tidy in
    let most = count_by-le-length is_true (truths_of_words v b n) in
    let long = length-truths v b n in
    omega (arith, words, seen)

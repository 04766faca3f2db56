-- The first place from one on whose bit is set, and the first at which a truth is true.
use Rattle.std.proofs.Common.{◌≡◌, ℕ, ◌+◌, ◌-◌, ◌*◌, ◌/◌, ◌%◌, ◌^◌, ◌<◌, ◌≤◌, List, get_or, length, Bool, true, false, eqb, Option, Some, None, refl, ◌∙◌, sym, ap, subst, arith, inl, inr, w64, Fits}
use Rattle.std.proofs.lemmas.Bool.{cases_lt}
use Rattle.std.proofs.lemmas.List.{get_or_past}
use Rattle.std.proofs.lemmas.Nat.{shr-shr, shr_le}
use Rattle.std.proofs.lemmas.Nat.Bits.{bit_at-trailing_zeros, bit_at_above}
use Rattle.std.specs.Int.{bit_at, trailing_zeros}
use Rattle.vx_words.specs.Words.{word_bit, bit_of, truth_of_bits, IsFirstPlace, IsNextPlace}
use Rattle.vx_words.specs.Truths.{AreTidy, truths_of_words, is_true, true_at}
use Rattle.vx_words.proofs.BitLemmas.{zero_bit}
use Rattle.vx_words.proofs.TruthLemmas.{bare_of_tidy, length_seen, truth_seen, place_within}

pub pos_of_not_zero : (n : ℕ) → (n ≡ 0 → ⊥) → 0 < n
pos_of_not_zero n other = elim (cases_lt 0 n) [ inl some ↦ some | inr none ↦ absurd (other (omega arith)) ]

pub set_bit_of : (x : ℕ) → x ≡ 1 → eqb x 1 ≡ true
set_bit_of x e = ap (λ y. eqb y 1) e

pub clear_bit_of : (x : ℕ) → x ≡ 0 → eqb x 1 ≡ false
clear_bit_of x e = ap (λ y. eqb y 1) e

-- a word of 64 bits has none from 64 on
set_within : (word i : ℕ) → word < 2 ^ 64 → bit_at word i ≡ 1 → i < 64
set_within word i fits set =
    elim (cases_lt i 64) [
      | inl low ↦ low
      | inr high ↦ let clear : bit_at word i ≡ 0 = bit_at_above word 64 i fits high in absurd (omega arith)
    ]

-- the bit at place r of word k
pub at_word : (ws : List ℕ) (k r i : ℕ) → i ≡ 64 * k + r → r < 64 → bit_of ws i ≡ word_bit (get_or ws k 0) r
at_word ws k r i e small =
    let word : i / 64 ≡ k = omega arith in
    let place : i % 64 ≡ r = omega arith in
    λ j. word_bit (get_or ws (word j) 0) (place j)

-- ---- in the word of the place itself: the rest of the word, shifted
module _ (ws : List ℕ) (from rest : ℕ) (fits : Fits w64 (get_or ws (from / 64) 0)) (within : from / 64 < length ws)
    (shifted : rest ≡ get_or ws (from / 64) 0 / 2 ^ (from % 64)) where
  rest_bit : (i : ℕ) → bit_at rest i ≡ bit_at (get_or ws (from / 64) 0) (from % 64 + i)
  rest_bit i = ap (λ x. bit_at x i) shifted ∙ ap (λ x. x % 2) (shr-shr (get_or ws (from / 64) 0) (from % 64) i)

  rest_at : (i j : ℕ) → i ≡ from + j → from % 64 + j < 64 → bit_of ws i ≡ word_bit rest j
  rest_at i j e small = at_word ws (from / 64) (from % 64 + j) i (omega arith) small ∙ ap (λ x. eqb x 1) (sym (rest_bit j))

  pub none_in_rest : rest ≡ 0 → (i : ℕ) → from ≤ i → i < 64 * (from / 64 + 1) → bit_of ws i ≡ false
  none_in_rest e i lo hi = rest_at i (i - from) (omega arith) (omega arith) ∙ zero_bit rest (i - from) e

  pub first_in_rest : (t : ℕ) → t ≡ trailing_zeros w64 rest → (rest ≡ 0 → ⊥) → IsFirstPlace (bit_of ws) (64 * length ws) from (from + t)
  first_in_rest t e other =
      let word : ℕ = get_or ws (from / 64) 0 in
      let low : rest ≤ word = omega (arith, shifted, shr_le word (from % 64)) in
      let small : word < 2 ^ 64 = fits.fits in
      let lowest = bit_at-trailing_zeros w64 rest (pos_of_not_zero rest other) (omega arith) in
      let set : bit_at rest t ≡ 1 = ap (bit_at rest) e ∙ lowest.1 in
      let inside : from % 64 + t < 64 = set_within word (from % 64 + t) small (sym (rest_bit t) ∙ set) in
      record {
        from_there = omega arith;
        within = omega arith;
        holds = rest_at (from + t) t refl inside ∙ set_bit_of _ set;
        none_before = λ i lo hi.
            let before : i - from < t = omega arith in
            rest_at i (i - from) (omega arith) (omega arith) ∙ clear_bit_of _ (lowest.2 (i - from) (subst (λ x. i - from < x) e before));
      }

-- ---- in a later word
module _ (ws : List ℕ) (from k : ℕ) (within : k < length ws) (none : (i : ℕ) → from ≤ i → i < 64 * k → bit_of ws i ≡ false) where
  in_word : (i : ℕ) → 64 * k ≤ i → i < 64 * (k + 1) → bit_of ws i ≡ word_bit (get_or ws k 0) (i - 64 * k)
  in_word i lo hi = at_word ws k (i - 64 * k) i (omega arith) (omega arith)

  pub none_in_word : get_or ws k 0 ≡ 0 → (i : ℕ) → from ≤ i → i < 64 * (k + 1) → bit_of ws i ≡ false
  none_in_word e i lo hi =
      elim (cases_lt i (64 * k)) [
        | inl low ↦ none i lo low
        | inr high ↦ in_word i high hi ∙ zero_bit (get_or ws k 0) (i - 64 * k) e
      ]

  pub first_in_word : (t : ℕ) → Fits w64 (get_or ws k 0) → from ≤ 64 * k → t ≡ trailing_zeros w64 (get_or ws k 0)
      → (get_or ws k 0 ≡ 0 → ⊥) → IsFirstPlace (bit_of ws) (64 * length ws) from (k * 64 + t)
  first_in_word t fits after e other =
      let word : ℕ = get_or ws k 0 in
      let small : word < 2 ^ 64 = fits.fits in
      let lowest = bit_at-trailing_zeros w64 word (pos_of_not_zero word other) small in
      let set : bit_at word t ≡ 1 = ap (bit_at word) e ∙ lowest.1 in
      let inside : t < 64 = set_within word t small set in
      record {
        from_there = omega arith;
        within = omega arith;
        holds = at_word ws k t (k * 64 + t) (omega arith) inside ∙ set_bit_of _ set;
        none_before = λ i lo hi.
            elim (cases_lt i (64 * k)) [
              | inl low ↦ none i lo low
              | inr high ↦
                  let before : i - 64 * k < t = omega arith in
                  in_word i high (omega arith) ∙ clear_bit_of _ (lowest.2 (i - 64 * k) (subst (λ x. i - 64 * k < x) e before))
            ];
      }

-- ---- from the bits of the values to truths
pub true_of_bits : (x y : Bool) → (x ≡ false → y ≡ false) → is_true (truth_of_bits x y) ≡ y
true_of_bits false y bare = sym (bare refl)
true_of_bits true false bare = refl
true_of_bits true true bare = refl

module _ (v b : List ℕ) (n : ℕ) (ts : List (Option Bool)) (seen : truths_of_words v b n ≡ ts) (tidy : AreTidy n v b) where
  -- a truth is true where its value bit is set
  pub true_seen : (i : ℕ) → true_at ts i ≡ bit_of b i
  true_seen i =
      let long = length_seen v b n ts seen in
      elim (cases_lt i (length ts)) [
        | inl low ↦ ap is_true (sym (truth_seen v b n ts i seen low)) ∙ true_of_bits (bit_of v i) (bit_of b i) (bare_of_tidy v b n tidy i)
        | inr high ↦ ap is_true (get_or_past ts i None high) ∙ sym (bare_of_tidy v b n tidy i (tidy.past i (omega arith)))
      ]

  pub true_within : (i : ℕ) → true_at ts i ≡ true → i < length ts
  true_within i e =
      elim (cases_lt i (length ts)) [
        | inl low ↦ low
        | inr high ↦ absurd (let no : true_at ts i ≡ false = ap is_true (get_or_past ts i None high) in cc)
      ]

  pub next_seen : (from : ℕ) (o : Option ℕ) → IsNextPlace (bit_of b) (64 * length b) from o → IsNextPlace (true_at ts) (length ts) from o
  next_seen from None none = λ i lo hi. true_seen i ∙ none i lo (place_within v b n ts i seen tidy hi).1
  next_seen from (Some k) first = record {
    from_there = first.from_there;
    within = true_within k (true_seen k ∙ first.holds);
    holds = true_seen k ∙ first.holds;
    none_before = λ i lo hi. true_seen i ∙ first.none_before i lo hi;
  }

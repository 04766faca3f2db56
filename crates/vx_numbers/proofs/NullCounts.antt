-- How many numbers are null, by the bits of validity.
use Rattle.std.proofs.Common.{◌≡◌, ℕ, zero, suc, ◌+◌, ◌*◌, ◌<◌, List, [], ◌∷◌, get_or, length, map, Bool, true, false, cond, Option, Some, None, refl, ◌∙◌, sym, ap, arith}
use Rattle.std.proofs.lemmas.List.{ext_get_or, get_or-map, length-map}
use Rattle.std.proofs.lemmas.List.FromFn.{length-range_with_len}
use Rattle.std.proofs.lemmas.List.Sums.{sum_by-cons}
use Rattle.std.proofs.lemmas.Simd.{map-map}
use Rattle.std.specs.List.{filter, range_with_len}
use Rattle.std.specs.Prelude.{ℤ, pos, count_by, is_none}
use Rattle.vx_words.specs.Words.{bit_of, truth_of_bits, truth_of_words}
use Rattle.vx_words.specs.Truths.{is_true, truths_of_words}
use Rattle.vx_words.proofs.CountLemmas.{count_seen}
use Rattle.vx_numbers.specs.Lanes.{value_at, number_of, number_in, numbers_of, AreTidyNumbers}
use Rattle.vx_numbers.proofs.ComparisonLemmas.{known_tidy}
use Rattle.vx_numbers.proofs.PlaceLemmas.{length_seen, number_seen}

-- each place has a number or none
one_place : (known : Bool) (z : ℤ) (numbers n : ℕ) (nulls : List (Option ℤ)) → numbers + length nulls ≡ n
    → cond (is_true (truth_of_bits known known)) 1 0 + numbers + length (cond (is_none (number_of known z)) (number_of known z ∷ nulls) nulls) ≡ suc n
one_place true z numbers n nulls e = omega (arith, e)
one_place false z numbers n nulls e = omega (arith, e)

module _ (v : List ℕ) (zs : List ℤ) where
  each_place : (is : List ℕ) → count_by is_true (map (truth_of_words v v) is) + length (filter is_none (map (number_in v zs) is)) ≡ length is
  each_place [] = refl
  each_place (i ∷ is) =
      ap (λ n. n + length (filter is_none (map (number_in v zs) (i ∷ is))))
      (sum_by-cons (λ t. cond (is_true t) 1 0) (truth_of_words v v i) (map (truth_of_words v v) is))
      ∙ one_place (bit_of v i) (value_at zs i) (count_by is_true (map (truth_of_words v v) is)) (length is) (filter is_none (map (number_in v zs) is)) (each_place is)

  module _ (n : ℕ) (ns : List (Option ℤ)) (size : length zs ≡ n) (seen : numbers_of v zs ≡ ns) (tidy : AreTidyNumbers v zs) where
    -- the bits that are set and the places without a number are all places
    pub bits_and_nulls : count_by (bit_of v) (range_with_len 0 (64 * length v)) + length (filter is_none ns) ≡ n
    bits_and_nulls =
        let set = count_seen v v n (known_tidy v zs n ns size seen tidy) in
        let all : count_by is_true (truths_of_words v v n) + length (filter is_none ns) ≡ length (range_with_len 0 n) =
        ap (λ l. count_by is_true (truths_of_words v v n) + length (filter is_none l)) (sym seen ∙ ap (λ m. map (number_in v zs) (range_with_len 0 m)) size)
        ∙ each_place (range_with_len 0 n) in
        let long : length (range_with_len 0 n) ≡ n = length-range_with_len 0 n in
        omega (arith, set, all, long)

-- ---- numbers none of which is null
no_null : (ns : List (Option ℤ)) (i : ℕ) → length (filter is_none ns) ≡ 0 → i < length ns → is_none (get_or ns i None) ≡ false
no_null [] i e h = absurd (omega (arith, h))
no_null (None ∷ ns) i e h = absurd (omega (arith, e))
no_null (Some a ∷ ns) zero e h = refl
no_null (Some a ∷ ns) (suc i) e h = no_null ns i e (omega (arith, h))

known_number : (known : Bool) (z : ℤ) → is_none (number_of known z) ≡ false → Some z ≡ number_of known z
known_number true z e = refl
known_number false z e = let no : ⊥ = cc in absurd no

-- they are the values
pub all_known : {X : Type 0} (f : X → ℤ) (v : List ℕ) (xs : List X) (ns : List (Option ℤ)) → numbers_of v (map f xs) ≡ ns
    → length (filter is_none ns) ≡ 0 → map (λ x. Some (f x)) xs ≡ ns
all_known f v xs ns seen none =
    let zs : List ℤ = map f xs in
    let long = length_seen v zs ns seen in
    let mapped = length-map zs Some in
    sym (map-map Some f xs)
    ∙ ext_get_or None (map Some zs) ns (mapped ∙ sym long)
    (λ i h.
    let low : i < length zs = omega (arith, h, mapped) in
    let within : i < length ns = omega (arith, low, long) in
    let here = number_seen v zs ns seen i within in
    get_or-map Some zs i (pos 0) None low
    ∙ known_number (bit_of v i) (value_at zs i) (ap is_none (sym here) ∙ no_null ns i none within)
    ∙ sym here)

-- Numbers that are made null at the places where a list of truths is true.
use Rattle.std.proofs.Common.{◌≡◌, ℕ, List, length, map, Bool, true, false, not, ◌&&◌, Option, None, refl, ◌∙◌, sym, ap}
use Rattle.std.proofs.lemmas.Simd.{zip2_of_maps}
use Rattle.std.specs.List.{range_with_len}
use Rattle.std.specs.Prelude.{ℤ}
use Rattle.std.specs.Simd.Lanes.{zip2}
use Rattle.vx_words.specs.Words.{bit_of, truth_of_bits, truth_of_words}
use Rattle.vx_words.specs.Truths.{AreTidy, truths_of_words, hidden_if}
use Rattle.vx_words.proofs.TruthLemmas.{same_maps, bare_of_tidy}
use Rattle.vx_numbers.specs.Lanes.{value_at, number_in, number_of, numbers_of, AreTidyNumbers}
use Rattle.vx_numbers.proofs.PlaceLemmas.{length_seen}

masked_table : (x y w : Bool) (z : ℤ) → (y ≡ false → w ≡ false) → number_of (x && not w) z ≡ hidden_if (number_of x z) (truth_of_bits y w)
masked_table false false w z bare = refl
masked_table false true false z bare = refl
masked_table false true true z bare = refl
masked_table true false w z bare = ap (λ b. number_of (not b) z) (bare refl)
masked_table true true false z bare = refl
masked_table true true true z bare = refl

-- the words of the numbers without the places at which the truths are true
module _ (v v' tv tb : List ℕ) (zs : List ℤ) (ns : List (Option ℤ)) (ts : List (Option Bool)) (seen : numbers_of v zs ≡ ns) (tidy : AreTidyNumbers v zs)
    (same : length ts ≡ length ns) (truths : truths_of_words tv tb (length ts) ≡ ts) (bare : AreTidy (length ts) tv tb)
    (bits : (i : ℕ) → bit_of v' i ≡ (bit_of v i && not (bit_of tb i))) where
  pub masked_tidy : length v' ≡ length v → AreTidyNumbers v' zs
  masked_tidy p = record {
    valid_length = p ∙ tidy.valid_length;
    past = λ i h. bits i ∙ ap (λ x. x && not (bit_of tb i)) (tidy.past i h);
  }

  pub masked_numbers : numbers_of v' zs ≡ zip2 hidden_if ns ts
  masked_numbers =
      let as_many : length ts ≡ length zs = same ∙ length_seen v zs ns seen in
      same_maps None (number_in v' zs) (λ i. hidden_if (number_in v zs i) (truth_of_words tv tb i)) (length zs)
      (λ i h. ap (λ x. number_of x (value_at zs i)) (bits i)
      ∙ masked_table (bit_of v i) (bit_of tv i) (bit_of tb i) (value_at zs i) (bare_of_tidy tv tb (length ts) bare i))
      ∙ sym (zip2_of_maps hidden_if (number_in v zs) (truth_of_words tv tb) (range_with_len 0 (length zs))
      (sym seen)
      (sym truths ∙ ap (λ m. map (truth_of_words tv tb) (range_with_len 0 m)) as_many))

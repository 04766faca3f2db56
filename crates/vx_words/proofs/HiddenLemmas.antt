-- Truths of which some are hidden.
use Rattle.std.proofs.Common.{◌≡◌, refl, ap, ◌∙◌, sym, ℕ, Bool, true, false, not, ◌&&◌, Option, None, List, map, length}
use Rattle.std.proofs.lemmas.Simd.{zip2_of_maps}
use Rattle.std.specs.List.{range_with_len}
use Rattle.std.specs.Simd.Lanes.{zip2}
use Rattle.vx_words.specs.Words.{bit_of, truth_of_bits, truth_of_words}
use Rattle.vx_words.specs.Truths.{AreTidy, truths_of_words, hidden_if}
use Rattle.vx_words.proofs.TruthLemmas.{same_maps, bare_of_tidy}

-- at a place: x says whether there is a truth and v which, y and w the same of the truth that hides
hidden_table : (x v y w : Bool) → (y ≡ false → w ≡ false) → truth_of_bits (x && not w) (v && not w) ≡ hidden_if (truth_of_bits x v) (truth_of_bits y w)
hidden_table false v false w bare = refl
hidden_table false v true false bare = refl
hidden_table false v true true bare = refl
hidden_table true true false w bare = ap (λ b. truth_of_bits (not b) (not b)) (bare refl)
hidden_table true false false w bare = ap (λ b. truth_of_bits (not b) false) (bare refl)
hidden_table true true true false bare = refl
hidden_table true false true false bare = refl
hidden_table true v true true bare = refl

and_no : (y : Bool) → (y && false) ≡ false
and_no true = refl
and_no false = refl

bare_beside : (x y w : Bool) → (x ≡ false → y ≡ false) → (x && not w) ≡ false → (y && not w) ≡ false
bare_beside false y w h e = ap (λ z. z && not w) (h refl)
bare_beside true y true h e = and_no y
bare_beside true y false h e = absurd cc

module _ (v b v' b' tv tb : List ℕ) (ss ts : List (Option Bool)) (same : length ts ≡ length ss)
    (seen : truths_of_words v b (length ss) ≡ ss) (tidy : AreTidy (length ss) v b)
    (truths : truths_of_words tv tb (length ts) ≡ ts) (bare : AreTidy (length ts) tv tb)
    (known : (i : ℕ) → bit_of v' i ≡ (bit_of v i && not (bit_of tb i))) (made : (i : ℕ) → bit_of b' i ≡ (bit_of b i && not (bit_of tb i))) where
  pub hidden_tidy : length v' ≡ length v → length b' ≡ length b → AreTidy (length ss) v' b'
  hidden_tidy p q = record {
    valid_length = p ∙ tidy.valid_length;
    values_length = q ∙ tidy.values_length;
    past = λ i h. known i ∙ ap (λ x. x && not (bit_of tb i)) (tidy.past i h);
    bare = λ i h e. made i ∙ bare_beside (bit_of v i) (bit_of b i) (bit_of tb i) (bare_of_tidy v b (length ss) tidy i) (sym (known i) ∙ e);
  }

  pub hidden_truths : truths_of_words v' b' (length ss) ≡ zip2 hidden_if ss ts
  hidden_truths =
      same_maps None (truth_of_words v' b') (λ i. hidden_if (truth_of_words v b i) (truth_of_words tv tb i)) (length ss)
      (λ i h. (λ j. truth_of_bits (known i j) (made i j)) ∙ hidden_table (bit_of v i) (bit_of b i) (bit_of tv i) (bit_of tb i) (bare_of_tidy tv tb (length ts) bare i))
      ∙ sym (zip2_of_maps hidden_if (truth_of_words v b) (truth_of_words tv tb) (range_with_len 0 (length ss))
      (sym seen)
      (sym truths ∙ ap (λ m. map (truth_of_words tv tb) (range_with_len 0 m)) same))

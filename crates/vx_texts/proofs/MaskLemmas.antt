-- Texts that are made null at the places where a list of truths is true.
use Rattle.std.proofs.Common.{◌≡◌, ℕ, List, length, map, Bool, true, false, not, ◌&&◌, Option, None, refl, ◌∙◌, sym, ap}
use Rattle.std.proofs.lemmas.Simd.{zip2_of_maps}
use Rattle.std.specs.List.{range_with_len}
use Rattle.std.specs.Simd.Lanes.{zip2}
use Rattle.vx_dtype.specs.Types.{Bytes}
use Rattle.vx_words.specs.Words.{bit_of, truth_of_bits, truth_of_words}
use Rattle.vx_words.specs.Truths.{AreTidy, truths_of_words, hidden_if}
use Rattle.vx_words.proofs.TruthLemmas.{same_maps, bare_of_tidy}
use Rattle.vx_texts.specs.Layouts.{bytes_at, text_in, text_of, texts_of, AreTidyTexts}
use Rattle.vx_texts.proofs.PlaceLemmas.{length_seen}

masked_table : (x y w : Bool) (s : Bytes) → (y ≡ false → w ≡ false) → text_of (x && not w) s ≡ hidden_if (text_of x s) (truth_of_bits y w)
masked_table false false w s bare = refl
masked_table false true false s bare = refl
masked_table false true true s bare = refl
masked_table true false w s bare = ap (λ b. text_of (not b) s) (bare refl)
masked_table true true false s bare = refl
masked_table true true true s bare = refl

-- the words of the texts without the places at which the truths are true
module _ (v v' tv tb : List ℕ) (ss : List Bytes) (xs : List (Option Bytes)) (ts : List (Option Bool)) (seen : texts_of v ss ≡ xs) (tidy : AreTidyTexts v ss)
    (same : length ts ≡ length xs) (truths : truths_of_words tv tb (length ts) ≡ ts) (bare : AreTidy (length ts) tv tb)
    (bits : (i : ℕ) → bit_of v' i ≡ (bit_of v i && not (bit_of tb i))) where
  pub masked_tidy : length v' ≡ length v → AreTidyTexts v' ss
  masked_tidy p = record {
    valid_length = p ∙ tidy.valid_length;
    past = λ i h. bits i ∙ ap (λ x. x && not (bit_of tb i)) (tidy.past i h);
    few = tidy.few;
  }

  pub masked_texts : texts_of v' ss ≡ zip2 hidden_if xs ts
  masked_texts =
      let as_many : length ts ≡ length ss = same ∙ length_seen v ss xs seen in
      same_maps None (text_in v' ss) (λ i. hidden_if (text_in v ss i) (truth_of_words tv tb i)) (length ss)
      (λ i h. ap (λ x. text_of x (bytes_at ss i)) (bits i)
      ∙ masked_table (bit_of v i) (bit_of tv i) (bit_of tb i) (bytes_at ss i) (bare_of_tidy tv tb (length ts) bare i))
      ∙ sym (zip2_of_maps hidden_if (text_in v ss) (truth_of_words tv tb) (range_with_len 0 (length ss))
      (sym seen)
      (sym truths ∙ ap (λ m. map (truth_of_words tv tb) (range_with_len 0 m)) as_many))

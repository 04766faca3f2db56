-- How many texts are null, by the bits of validity.
use Rattle.std.proofs.Common.{◌≡◌, ℕ, suc, ◌+◌, ◌*◌, List, [], ◌∷◌, length, map, Bool, true, false, cond, Option, refl, ◌∙◌, sym, ap, arith}
use Rattle.std.proofs.lemmas.List.FromFn.{length-range_with_len}
use Rattle.std.proofs.lemmas.List.Sums.{sum_by-cons}
use Rattle.std.specs.List.{filter, range_with_len}
use Rattle.std.specs.Prelude.{count_by, is_none}
use Rattle.vx_dtype.specs.Types.{Bytes}
use Rattle.vx_words.specs.Words.{bit_of, truth_of_bits, truth_of_words}
use Rattle.vx_words.specs.Truths.{is_true, truths_of_words}
use Rattle.vx_words.proofs.CountLemmas.{count_seen}
use Rattle.vx_texts.specs.Layouts.{bytes_at, text_of, text_in, texts_of, AreTidyTexts}
use Rattle.vx_texts.proofs.ComparisonLemmas.{known_tidy}

-- each place has a text or none
one_place : (known : Bool) (s : Bytes) (texts n : ℕ) (nulls : List (Option Bytes)) → texts + length nulls ≡ n
    → cond (is_true (truth_of_bits known known)) 1 0 + texts + length (cond (is_none (text_of known s)) (text_of known s ∷ nulls) nulls) ≡ suc n
one_place true s texts n nulls e = omega (arith, e)
one_place false s texts n nulls e = omega (arith, e)

module _ (v : List ℕ) (ss : List Bytes) where
  each_place : (is : List ℕ) → count_by is_true (map (truth_of_words v v) is) + length (filter is_none (map (text_in v ss) is)) ≡ length is
  each_place [] = refl
  each_place (i ∷ is) =
      ap (λ n. n + length (filter is_none (map (text_in v ss) (i ∷ is))))
      (sum_by-cons (λ t. cond (is_true t) 1 0) (truth_of_words v v i) (map (truth_of_words v v) is))
      ∙ one_place (bit_of v i) (bytes_at ss i) (count_by is_true (map (truth_of_words v v) is)) (length is) (filter is_none (map (text_in v ss) is)) (each_place is)

  module _ (n : ℕ) (ts : List (Option Bytes)) (size : length ss ≡ n) (seen : texts_of v ss ≡ ts) (tidy : AreTidyTexts v ss) where
    -- the bits that are set and the places without a text are all places
    pub bits_and_nulls : count_by (bit_of v) (range_with_len 0 (64 * length v)) + length (filter is_none ts) ≡ n
    bits_and_nulls =
        let set = count_seen v v n (known_tidy v ss n ts size seen tidy) in
        let all : count_by is_true (truths_of_words v v n) + length (filter is_none ts) ≡ length (range_with_len 0 n) =
        ap (λ l. count_by is_true (truths_of_words v v n) + length (filter is_none l)) (sym seen ∙ ap (λ m. map (text_in v ss) (range_with_len 0 m)) size)
        ∙ each_place (range_with_len 0 n) in
        let long : length (range_with_len 0 n) ≡ n = length-range_with_len 0 n in
        omega (arith, set, all, long)

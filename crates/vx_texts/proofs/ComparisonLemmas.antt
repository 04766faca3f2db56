-- Truths made of the answers of comparisons, and of which places are null.
use Rattle.std.proofs.Common.{◌≡◌, ℕ, ◌<◌, List, [], ◌∷◌, length, map, Bool, true, false, ◌&&◌, nat_lt, Option, Some, None, refl, ◌∙◌, sym, ap, arith}
use Rattle.std.proofs.lemmas.Bool.{lt-ltb}
use Rattle.std.proofs.lemmas.Simd.{zip2_of_maps, map-map}
use Rattle.std.specs.List.{range_with_len}
use Rattle.std.specs.Simd.Lanes.{zip2}
use Rattle.vx_dtype.specs.declared.CompareOperator.{CompareOperator}
use Rattle.vx_dtype.specs.Logic.{is_null3}
use Rattle.vx_dtype.specs.Types.{Bytes}
use Rattle.vx_words.specs.Words.{bit_of, truth_of_bits, truth_of_words, truth_val}
use Rattle.vx_words.specs.Truths.{AreTidy, truths_of_words, vals_of, words_for}
use Rattle.vx_words.proofs.BitLemmas.{and_false, and_true}
use Rattle.vx_words.proofs.TruthLemmas.{same_maps}
use Rattle.vx_texts.specs.Texts.{on_both, compared, null_test, texts_meet}
use Rattle.vx_texts.specs.Layouts.{bytes_at, text_in, text_of, texts_of, AreTidyTexts, AreBits}
use Rattle.vx_texts.proofs.PlaceLemmas.{length_seen}

-- ---- bits of one place
-- where both texts are there, the answer of the rule
both_table : (rule : Bytes → Bytes → Bool) (a b : Bytes) (x y : Bool)
    → truth_of_bits (x && y) (rule a b && (x && y)) ≡ on_both rule (text_of x a) (text_of y b)
both_table rule a b false false = refl
both_table rule a b false true = refl
both_table rule a b true false = refl
both_table rule a b true true = ap Some (and_true (rule a b))

one_table : (rule : Bytes → Bytes → Bool) (a b : Bytes) (x : Bool) → truth_of_bits x (rule a b && x) ≡ on_both rule (text_of x a) (Some b)
one_table rule a b false = refl
one_table rule a b true = ap Some (and_true (rule a b))

-- no bit is set where another isn't
unset_beside : (x y z : Bool) → z ≡ false → (x && (y && z)) ≡ false
unset_beside x y z e = ap (λ b. x && (y && b)) e ∙ ap (λ b. x && b) (and_false y) ∙ and_false x

-- ---- two lists that were seen by their words and bytes
module _ (op : CompareOperator) (lv rv v b : List ℕ) (ls rs : List Bytes) (n : ℕ) (lts rts : List (Option Bytes)) (size : length ls ≡ n)
    (seen_left : texts_of lv ls ≡ lts) (left : AreTidyTexts lv ls) (seen_right : texts_of rv rs ≡ rts)
    (same : length rts ≡ length lts) (valid : (i : ℕ) → bit_of v i ≡ (bit_of lv i && bit_of rv i))
    (tests : AreBits b n (λ i. texts_meet op (bytes_at ls i) (bytes_at rs i) && bit_of v i)) where
  pub compared_tidy : length v ≡ length lv → AreTidy n v b
  compared_tidy p = record {
    valid_length = p ∙ left.valid_length ∙ ap words_for size;
    values_length = tests.count;
    past = λ i h. valid i ∙ ap (λ x. x && bit_of rv i) (left.past i (omega arith));
    bare = λ i low e. tests.bits i ∙ unset_beside (nat_lt i n) (texts_meet op (bytes_at ls i) (bytes_at rs i)) (bit_of v i) e;
  }

  compared_at : (i : ℕ) → i < n → truth_of_words v b i ≡ compared op (text_in lv ls i) (text_in rv rs i)
  compared_at i h =
      let known = valid i in
      let answer : bit_of b i ≡ (texts_meet op (bytes_at ls i) (bytes_at rs i) && (bit_of lv i && bit_of rv i)) =
      tests.bits i ∙ (λ k. lt-ltb i n h k && (texts_meet op (bytes_at ls i) (bytes_at rs i) && known k)) in
      (λ k. truth_of_bits (known k) (answer k))
      ∙ both_table (texts_meet op) (bytes_at ls i) (bytes_at rs i) (bit_of lv i) (bit_of rv i)

  pub compared_truths : truths_of_words v b n ≡ zip2 (compared op) lts rts
  compared_truths =
      let p = length_seen lv ls lts seen_left in
      let q = length_seen rv rs rts seen_right in
      let as_many : length rs ≡ n = omega arith in
      same_maps None (truth_of_words v b) (λ i. compared op (text_in lv ls i) (text_in rv rs i)) n compared_at
      ∙ sym (zip2_of_maps (compared op) (text_in lv ls) (text_in rv rs) (range_with_len 0 n)
      (sym seen_left ∙ ap (λ m. map (text_in lv ls) (range_with_len 0 m)) size)
      (sym seen_right ∙ ap (λ m. map (text_in rv rs) (range_with_len 0 m)) as_many))

-- ---- a list and one text
module _ (op : CompareOperator) (v b : List ℕ) (ss : List Bytes) (n : ℕ) (r : Bytes) (ts : List (Option Bytes)) (size : length ss ≡ n) (seen : texts_of v ss ≡ ts)
    (tidy : AreTidyTexts v ss) (tests : AreBits b n (λ i. texts_meet op (bytes_at ss i) r && bit_of v i)) where
  pub compared_with_tidy : AreTidy n v b
  compared_with_tidy = record {
    valid_length = tidy.valid_length ∙ ap words_for size;
    values_length = tests.count;
    past = λ i h. tidy.past i (omega arith);
    bare = λ i low e. tests.bits i ∙ unset_beside (nat_lt i n) (texts_meet op (bytes_at ss i) r) (bit_of v i) e;
  }

  compared_with_at : (i : ℕ) → i < n → truth_of_words v b i ≡ compared op (text_in v ss i) (Some r)
  compared_with_at i h =
      let answer : bit_of b i ≡ (texts_meet op (bytes_at ss i) r && bit_of v i) =
      tests.bits i ∙ ap (λ x. x && (texts_meet op (bytes_at ss i) r && bit_of v i)) (lt-ltb i n h) in
      ap (truth_of_bits (bit_of v i)) answer ∙ one_table (texts_meet op) (bytes_at ss i) r (bit_of v i)

  pub compared_with_truths : truths_of_words v b n ≡ map (λ t. compared op t (Some r)) ts
  compared_with_truths =
      same_maps None (truth_of_words v b) (λ i. compared op (text_in v ss i) (Some r)) n compared_with_at
      ∙ sym (ap (map (λ t. compared op t (Some r))) (sym seen ∙ ap (λ m. map (text_in v ss) (range_with_len 0 m)) size)
      ∙ map-map (λ t. compared op t (Some r)) (text_in v ss) (range_with_len 0 n))

-- ---- truths are one where their values are
same_truth : (t u : Option Bool) → truth_val t ≡ truth_val u → t ≡ u
same_truth None None e = refl
same_truth None (Some b) e = cc
same_truth (Some a) None e = cc
same_truth (Some a) (Some b) e = cc

same_truths : (ts us : List (Option Bool)) → vals_of ts ≡ vals_of us → ts ≡ us
same_truths [] [] e = refl
same_truths [] (u ∷ us) e = cc
same_truths (t ∷ ts) [] e = cc
same_truths (t ∷ ts) (u ∷ us) e =
    let first : truth_val t ≡ truth_val u = cc in
    let others : vals_of ts ≡ vals_of us = cc in
    let p = same_truth t u first in
    let q = same_truths ts us others in
    λ k. p k ∷ q k

-- ---- nulls: what isn't known
module _ (v : List ℕ) (ss : List Bytes) (n : ℕ) (ts : List (Option Bytes)) (size : length ss ≡ n) (seen : texts_of v ss ≡ ts) (tidy : AreTidyTexts v ss) where
  pub known_tidy : AreTidy n v v
  known_tidy = record {
    valid_length = tidy.valid_length ∙ ap words_for size;
    values_length = tidy.valid_length ∙ ap words_for size;
    past = λ i h. tidy.past i (omega arith);
    bare = λ i low e. e;
  }

  null_at : (x : Bool) (s : Bytes) → is_null3 (truth_val (truth_of_bits x x)) ≡ truth_val (null_test (text_of x s))
  null_at false s = refl
  null_at true s = refl

  known_nulls : map is_null3 (vals_of (truths_of_words v v n)) ≡ vals_of (map null_test ts)
  known_nulls =
      let range : List ℕ = range_with_len 0 n in
      ap (map is_null3) (map-map truth_val (truth_of_words v v) range)
      ∙ map-map is_null3 (λ i. truth_val (truth_of_words v v i)) range
      ∙ same_maps (truth_val None) (λ i. is_null3 (truth_val (truth_of_words v v i))) (λ i. truth_val (null_test (text_in v ss i))) n
      (λ i h. null_at (bit_of v i) (bytes_at ss i))
      ∙ sym (ap (λ l. vals_of (map null_test l)) (sym seen ∙ ap (λ m. map (text_in v ss) (range_with_len 0 m)) size)
      ∙ ap vals_of (map-map null_test (text_in v ss) range)
      ∙ map-map truth_val (λ i. null_test (text_in v ss i)) range)

  pub nulls_seen : (known nulls : List (Option Bool)) → known ≡ truths_of_words v v n → vals_of nulls ≡ map is_null3 (vals_of known)
      → nulls ≡ map null_test ts
  nulls_seen known nulls made answer =
      same_truths nulls (map null_test ts) (answer ∙ ap (λ l. map is_null3 (vals_of l)) made ∙ known_nulls)

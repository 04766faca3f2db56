-- Truths made of the answers of comparisons, and of which places are null.
use Rattle.std.proofs.Common.{◌≡◌, ℕ, ◌<◌, List, [], ◌∷◌, length, map, Bool, true, false, ◌&&◌, nat_lt, cond, Option, Some, None, refl, ◌∙◌, sym, ap, arith}
use Rattle.std.proofs.lemmas.Bool.{lt-ltb}
use Rattle.std.proofs.lemmas.Simd.{zip2_of_maps, map-map}
use Rattle.std.specs.List.{range_with_len}
use Rattle.std.specs.Ordering.{int_cmp}
use Rattle.std.specs.Prelude.{ℤ, replicate}
use Rattle.std.specs.Simd.Lanes.{zip2}
use Rattle.vx_dtype.specs.declared.CompareOperator.{CompareOperator}
use Rattle.vx_dtype.specs.Logic.{is_null3}
use Rattle.vx_dtype.specs.Order.{meets}
use Rattle.vx_words.specs.Words.{bit_of, truth_of_bits, truth_of_words, truth_val}
use Rattle.vx_words.specs.Truths.{AreTidy, truths_of_words, vals_of, words_for}
use Rattle.vx_numbers.specs.Numbers.{on_both, compared, null_test}
use Rattle.vx_numbers.specs.Lanes.{value_at, number_in, numbers_of, AreTidyNumbers, AreBits, holds_at, holds_with}
use Rattle.vx_words.proofs.BitLemmas.{and_false, and_true}
use Rattle.vx_words.proofs.TruthLemmas.{same_maps}
use Rattle.vx_numbers.proofs.PlaceLemmas.{length_seen}

-- ---- bits of one place
-- where both numbers are there, the answer of the rule
both_table : (rule : ℤ → ℤ → Bool) (a b : ℤ) (x y : Bool)
    → truth_of_bits (x && y) (rule a b && (x && y)) ≡ on_both rule (cond x (Some a) None) (cond y (Some b) None)
both_table rule a b false false = refl
both_table rule a b false true = refl
both_table rule a b true false = refl
both_table rule a b true true = ap Some (and_true (rule a b))

one_table : (rule : ℤ → ℤ → Bool) (a b : ℤ) (x : Bool) → truth_of_bits x (rule a b && x) ≡ on_both rule (cond x (Some a) None) (Some b)
one_table rule a b false = refl
one_table rule a b true = ap Some (and_true (rule a b))

-- no bit is set where another isn't
unset_beside : (x y z : Bool) → z ≡ false → (x && (y && z)) ≡ false
unset_beside x y z e = ap (λ b. x && (y && b)) e ∙ ap (λ b. x && b) (and_false y) ∙ and_false x

-- ---- two lists that were seen by their words and values
module _ (op : CompareOperator) (lv rv v b : List ℕ) (ls rs : List ℤ) (n : ℕ) (lns rns : List (Option ℤ)) (size : length ls ≡ n)
    (seen_left : numbers_of lv ls ≡ lns) (left : AreTidyNumbers lv ls) (seen_right : numbers_of rv rs ≡ rns)
    (same : length rns ≡ length lns) (valid : (i : ℕ) → bit_of v i ≡ (bit_of lv i && bit_of rv i))
    (tests : AreBits b n (λ i. holds_at op ls rs i && bit_of v i)) where
  pub compared_tidy : length v ≡ length lv → AreTidy n v b
  compared_tidy p = record {
    valid_length = p ∙ left.valid_length ∙ ap words_for size;
    values_length = tests.count;
    past = λ i h. valid i ∙ ap (λ x. x && bit_of rv i) (left.past i (omega arith));
    bare = λ i low e. tests.bits i ∙ unset_beside (nat_lt i n) (holds_at op ls rs i) (bit_of v i) e;
  }

  compared_at : (i : ℕ) → i < n → truth_of_words v b i ≡ compared op (number_in lv ls i) (number_in rv rs i)
  compared_at i h =
      let known = valid i in
      let answer : bit_of b i ≡ (holds_at op ls rs i && (bit_of lv i && bit_of rv i)) =
      tests.bits i ∙ (λ k. lt-ltb i n h k && (holds_at op ls rs i && known k)) in
      (λ k. truth_of_bits (known k) (answer k))
      ∙ both_table (λ x y. meets op (int_cmp x y)) (value_at ls i) (value_at rs i) (bit_of lv i) (bit_of rv i)

  pub compared_truths : truths_of_words v b n ≡ zip2 (compared op) lns rns
  compared_truths =
      let p = length_seen lv ls lns seen_left in
      let q = length_seen rv rs rns seen_right in
      let as_many : length rs ≡ n = omega arith in
      same_maps None (truth_of_words v b) (λ i. compared op (number_in lv ls i) (number_in rv rs i)) n compared_at
      ∙ sym (zip2_of_maps (compared op) (number_in lv ls) (number_in rv rs) (range_with_len 0 n)
      (sym seen_left ∙ ap (λ m. map (number_in lv ls) (range_with_len 0 m)) size)
      (sym seen_right ∙ ap (λ m. map (number_in rv rs) (range_with_len 0 m)) as_many))

-- ---- a list and one number
module _ (op : CompareOperator) (v b : List ℕ) (zs : List ℤ) (n : ℕ) (r : ℤ) (ns : List (Option ℤ)) (size : length zs ≡ n) (seen : numbers_of v zs ≡ ns)
    (tidy : AreTidyNumbers v zs) (tests : AreBits b n (λ i. holds_with op zs r i && bit_of v i)) where
  pub compared_with_tidy : AreTidy n v b
  compared_with_tidy = record {
    valid_length = tidy.valid_length ∙ ap words_for size;
    values_length = tests.count;
    past = λ i h. tidy.past i (omega arith);
    bare = λ i low e. tests.bits i ∙ unset_beside (nat_lt i n) (holds_with op zs r i) (bit_of v i) e;
  }

  compared_with_at : (i : ℕ) → i < n → truth_of_words v b i ≡ compared op (number_in v zs i) (Some r)
  compared_with_at i h =
      let answer : bit_of b i ≡ (holds_with op zs r i && bit_of v i) =
      tests.bits i ∙ ap (λ x. x && (holds_with op zs r i && bit_of v i)) (lt-ltb i n h) in
      ap (truth_of_bits (bit_of v i)) answer ∙ one_table (λ x y. meets op (int_cmp x y)) (value_at zs i) r (bit_of v i)

  pub compared_with_truths : truths_of_words v b n ≡ map (λ m. compared op m (Some r)) ns
  compared_with_truths =
      same_maps None (truth_of_words v b) (λ i. compared op (number_in v zs i) (Some r)) n compared_with_at
      ∙ sym (ap (map (λ m. compared op m (Some r))) (sym seen ∙ ap (λ m. map (number_in v zs) (range_with_len 0 m)) size)
      ∙ map-map (λ m. compared op m (Some r)) (number_in v zs) (range_with_len 0 n))

-- beside null each comparison is null
null_beside : (op : CompareOperator) (n : Option ℤ) → compared op n None ≡ None
null_beside op None = refl
null_beside op (Some a) = refl

pub compared_with_null : (op : CompareOperator) (ns : List (Option ℤ)) → replicate (length ns) None ≡ map (λ n. compared op n None) ns
compared_with_null op [] = refl
compared_with_null op (n ∷ ns) = let e = sym (null_beside op n) in let r = compared_with_null op ns in λ k. e k ∷ r k

-- ---- truths are one where their values are
same_truth : (t u : Option Bool) → truth_val t ≡ truth_val u → t ≡ u
same_truth None None e = refl
same_truth None (Some b) e = cc
same_truth (Some a) None e = cc
same_truth (Some a) (Some b) e = cc

same_truths : (ts us : List (Option Bool)) → vals_of ts ≡ vals_of us → ts ≡ us
same_truths [] [] e = refl
same_truths [] (u ∷ us) e = cc
same_truths (t ∷ ts) [] e = cc
same_truths (t ∷ ts) (u ∷ us) e =
    let first : truth_val t ≡ truth_val u = cc in
    let others : vals_of ts ≡ vals_of us = cc in
    let p = same_truth t u first in
    let q = same_truths ts us others in
    λ k. p k ∷ q k

-- ---- nulls: what isn't known
module _ (v : List ℕ) (zs : List ℤ) (n : ℕ) (ns : List (Option ℤ)) (size : length zs ≡ n) (seen : numbers_of v zs ≡ ns) (tidy : AreTidyNumbers v zs) where
  pub known_tidy : AreTidy n v v
  known_tidy = record {
    valid_length = tidy.valid_length ∙ ap words_for size;
    values_length = tidy.valid_length ∙ ap words_for size;
    past = λ i h. tidy.past i (omega arith);
    bare = λ i low e. e;
  }

  null_at : (x : Bool) (z : ℤ) → is_null3 (truth_val (truth_of_bits x x)) ≡ truth_val (null_test (cond x (Some z) None))
  null_at false z = refl
  null_at true z = refl

  known_nulls : map is_null3 (vals_of (truths_of_words v v n)) ≡ vals_of (map null_test ns)
  known_nulls =
      let range : List ℕ = range_with_len 0 n in
      ap (map is_null3) (map-map truth_val (truth_of_words v v) range)
      ∙ map-map is_null3 (λ i. truth_val (truth_of_words v v i)) range
      ∙ same_maps (truth_val None) (λ i. is_null3 (truth_val (truth_of_words v v i))) (λ i. truth_val (null_test (number_in v zs i))) n
      (λ i h. null_at (bit_of v i) (value_at zs i))
      ∙ sym (ap (λ l. vals_of (map null_test l)) (sym seen ∙ ap (λ m. map (number_in v zs) (range_with_len 0 m)) size)
      ∙ ap vals_of (map-map null_test (number_in v zs) range)
      ∙ map-map truth_val (λ i. null_test (number_in v zs i)) range)

  pub nulls_seen : (known ts : List (Option Bool)) → known ≡ truths_of_words v v n → vals_of ts ≡ map is_null3 (vals_of known)
      → ts ≡ map null_test ns
  nulls_seen known ts made answer =
      same_truths ts (map null_test ns) (answer ∙ ap (λ l. map is_null3 (vals_of l)) made ∙ known_nulls)

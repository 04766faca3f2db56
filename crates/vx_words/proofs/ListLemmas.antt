-- Lists of truths: which are null, which are kept, and when two are one.
use Rattle.std.proofs.Common.{◌≡◌, ℕ, ◌+◌, ◌*◌, ◌/◌, ◌%◌, ◌<◌, List, get_or, length, map, Bool, true, false, eqb, nat_lt, Option, Some, None, refl, ◌∙◌, sym, ap, subst, arith, inl, inr, w64, Fits}
use Rattle.std.proofs.lemmas.Bool.{cases_lt, lt-ltb, le-ltb}
use Rattle.std.proofs.lemmas.Bool.Decides.{nat_tests, same_from_decides}
use Rattle.std.proofs.lemmas.List.{ext_get_or}
use Rattle.std.proofs.lemmas.Nat.Bits.{bit_at-lt, same_from_bits_below}
use Rattle.std.proofs.lemmas.Simd.{map-map}
use Rattle.std.specs.List.{range_with_len}
use Rattle.vx_dtype.specs.Values.{null_val}
use Rattle.vx_dtype.specs.Logic.{not3, is_null3}
use Rattle.vx_words.specs.Words.{bit_of, truth_of_bits, truth_of_words, truth_val, val_of_words, HaveSameBits}
use Rattle.vx_words.specs.Truths.{AreTidy, truths_of_words, vals_of, words_for}
use Rattle.vx_words.specs.TruthsEqual.{truths_eq, truths_decides}
use Rattle.std.specs.Prelude.{Decides}
use Rattle.vx_words.proofs.TruthLemmas.{same_maps, truth_in_truths, bare_of_tidy}

-- ---- nulls: what isn't known
null_table : (x y : Bool) → not3 (truth_val (truth_of_bits true x)) ≡ is_null3 (truth_val (truth_of_bits x y))
null_table false y = refl
null_table true y = refl

module _ (w v b : List ℕ) (n : ℕ) (tidy : AreTidy n v b) (known : (j : ℕ) → bit_of w j ≡ nat_lt j n) where
  pub known_tidy : length w ≡ words_for n → AreTidy n w v
  known_tidy long = record {
    valid_length = long;
    values_length = tidy.valid_length;
    past = λ i h. known i ∙ le-ltb i n h;
    bare = λ i h e.
        elim (cases_lt i n) [
          | inl low ↦ absurd (let both : true ≡ false = sym (known i ∙ lt-ltb i n low) ∙ e in cc)
          | inr high ↦ tidy.past i high
        ];
  }

  pub known_nulls : map not3 (vals_of (truths_of_words w v n)) ≡ map is_null3 (vals_of (truths_of_words v b n))
  known_nulls =
      let range : List ℕ = range_with_len 0 n in
      ap (map not3) (map-map truth_val (truth_of_words w v) range)
      ∙ map-map not3 (val_of_words w v) range
      ∙ same_maps null_val (λ i. not3 (val_of_words w v i)) (λ i. is_null3 (val_of_words v b i)) n
      (λ i h. ap (λ x. not3 (truth_val (truth_of_bits x (bit_of v i)))) (known i ∙ lt-ltb i n h) ∙ null_table (bit_of v i) (bit_of b i))
      ∙ sym (ap (map is_null3) (map-map truth_val (truth_of_words v b) range) ∙ map-map is_null3 (val_of_words v b) range)

-- ---- words are one where their lists are
valid_of : Option Bool → Bool
valid_of None = false
valid_of (Some b) = true

value_of : Option Bool → Bool
value_of None = false
value_of (Some b) = b

valid_seen : (x y : Bool) → valid_of (truth_of_bits x y) ≡ x
unfolding valid_of
valid_seen false y = refl
valid_seen true y = refl

value_seen : (x y : Bool) → (x ≡ false → y ≡ false) → value_of (truth_of_bits x y) ≡ y
unfolding value_of
value_seen false y e = sym (e refl)
value_seen true y e = refl

same_bit : (x y : ℕ) → x < 2 → y < 2 → eqb x 1 ≡ eqb y 1 → x ≡ y
same_bit x y p q e = grind (arith, nat_tests)

-- words are one where their bits are
pub same_word : (v w : List ℕ) (k : ℕ) → Fits w64 (get_or v k 0) → Fits w64 (get_or w k 0) → HaveSameBits v w → get_or v k 0 ≡ get_or w k 0
same_word v w k p q each =
    same_from_bits_below 64 (get_or v k 0) (get_or w k 0) p.fits q.fits
    (λ i small.
    let word : (64 * k + i) / 64 ≡ k = omega arith in
    let place : (64 * k + i) % 64 ≡ i = omega arith in
    let bits : bit_of v (64 * k + i) ≡ bit_of w (64 * k + i) = each (64 * k + i) in
    same_bit _ _ (bit_at-lt (get_or v k 0) i) (bit_at-lt (get_or w k 0) i) (rw (word, place) at bits))

pub bits_by_words : (v w : List ℕ) → length w ≡ length v → ((k : ℕ) → k < length v → get_or v k 0 ≡ get_or w k 0) → HaveSameBits v w
bits_by_words v w long each i = ap (λ x. bit_of x i) (ext_get_or 0 v w (sym long) each)

module _ (v b v' b' : List ℕ) (n : ℕ) (tidy : AreTidy n v b) (tidy' : AreTidy n v' b') (same : truths_of_words v b n ≡ truths_of_words v' b' n) where
  truths_same : (i : ℕ) → i < n → truth_of_words v b i ≡ truth_of_words v' b' i
  truths_same i h = sym (truth_in_truths v b n i h) ∙ ap (λ x. get_or x i None) same ∙ truth_in_truths v' b' n i h

  valid_bits : (i : ℕ) → bit_of v i ≡ bit_of v' i
  valid_bits i =
      elim (cases_lt i n) [
        | inl low ↦ sym (valid_seen (bit_of v i) (bit_of b i)) ∙ ap valid_of (truths_same i low) ∙ valid_seen (bit_of v' i) (bit_of b' i)
        | inr high ↦ tidy.past i high ∙ sym (tidy'.past i high)
      ]

  value_bits : (i : ℕ) → bit_of b i ≡ bit_of b' i
  value_bits i =
      elim (cases_lt i n) [
        | inl low ↦
            sym (value_seen (bit_of v i) (bit_of b i) (bare_of_tidy v b n tidy i))
            ∙ ap value_of (truths_same i low)
            ∙ value_seen (bit_of v' i) (bit_of b' i) (bare_of_tidy v' b' n tidy' i)
        | inr high ↦
            bare_of_tidy v b n tidy i (tidy.past i high) ∙ sym (bare_of_tidy v' b' n tidy' i (tidy'.past i high))
      ]

  pub same_bits : HaveSameBits v v' × HaveSameBits b b'
  same_bits = (valid_bits, value_bits)

module _ (lv lb rv rb : List ℕ) (ls rs : List (Option Bool)) (long : length ls ≡ length rs)
    (seen_left : truths_of_words lv lb (length ls) ≡ ls) (left : AreTidy (length ls) lv lb)
    (seen_right : truths_of_words rv rb (length rs) ≡ rs) (right : AreTidy (length rs) rv rb) where
  seen_as_long : truths_of_words rv rb (length ls) ≡ rs
  seen_as_long = ap (truths_of_words rv rb) long ∙ seen_right

  pub truths_by_bits : HaveSameBits lv rv → HaveSameBits lb rb → ls ≡ rs
  truths_by_bits p q =
      sym seen_left
      ∙ same_maps None (truth_of_words lv lb) (truth_of_words rv rb) (length ls) (λ i h k. truth_of_bits (p i k) (q i k))
      ∙ seen_as_long

  pub bits_by_truths : ls ≡ rs → HaveSameBits lv rv × HaveSameBits lb rb
  bits_by_truths e =
      same_bits lv lb rv rb (length ls) left (subst (λ n. AreTidy n rv rb) (sym long) right) (seen_left ∙ e ∙ sym seen_as_long)

-- the answer is that of the definition
pub truths_answer : (ts us : List (Option Bool)) (r : Bool) → Decides r (ts ≡ us) → r ≡ truths_eq ts us
truths_answer ts us r d = same_from_decides r (truths_eq ts us) d (truths_decides ts us)

-- The answers of a test at the places of lists, 64 places a word.
use Rattle.std.proofs.Common.{◌≡◌, ℕ, ◌+◌, ◌*◌, ◌/◌, ◌%◌, ◌^◌, ◌<◌, ◌≤◌, List, [], ◌∷◌, ◌++◌, get_or, length, map, take, drop, Bool, true, false, ◌&&◌, ◌||◌, eqb, nat_lt, refl, ◌∙◌, sym, ap, arith, inl, inr, eq-eqb}
use Rattle.std.proofs.lemmas.Bool.{cases_lt, cases_eq, lt-ltb, le-ltb, ne_eqb}
use Rattle.std.proofs.lemmas.List.{get_or_append_left, get_or_push, length_push, take-map, drop-map, get_or-take, get_or-drop}
use Rattle.std.proofs.lemmas.Nat.{one_shl}
use Rattle.std.proofs.lemmas.Nat.Bits.{bit_at-pow_same, bit_at-pow_other}
use Rattle.std.proofs.lemmas.Simd.{length-chunk}
use Rattle.std.specs.Int.{from_bool}
use Rattle.std.specs.Ordering.{int_cmp}
use Rattle.std.specs.Prelude.{ℤ, pos, bit_and, bit_or}
use Rattle.vx_dtype.specs.declared.CompareOperator.{CompareOperator}
use Rattle.vx_dtype.specs.Order.{meets}
use Rattle.vx_words.specs.Words.{word_bit, bit_of}
use Rattle.vx_words.proofs.BitLemmas.{bit_of_past, zero_bit, and_false, or_false}
use Rattle.vx_words.proofs.WordLemmas.{word_bit-and, word_bit-or}
use Rattle.vx_words.proofs.NextLemmas.{at_word}
use Rattle.vx_numbers.specs.Lanes.{value_at, holds_at, holds_with, AreBits}

-- ---- one place more of a word
shifted_bit : (b : Bool) (j i : ℕ) → j < 64 → word_bit (from_bool b * 2 ^ j % 2 ^ 64) i ≡ (eqb i j && b)
shifted_bit false j i h = zero_bit (0 * 2 ^ j % 2 ^ 64) i (omega arith) ∙ sym (and_false (eqb i j))
shifted_bit true j i h =
    ap (λ x. word_bit x i) (one_shl j 64 h) ∙
    elim (cases_eq i j) [
      | inl same ↦ ap (λ x. word_bit (2 ^ j) x) same ∙ ap (λ x. eqb x 1) (bit_at-pow_same j) ∙ sym (rw (eq-eqb i j same) refl)
      | inr other ↦ ap (λ x. eqb x 1) (bit_at-pow_other j i other) ∙ sym (rw (ne_eqb i j other) refl)
    ]

pub one_bit_more : (p : ℕ → Bool) (w j n : ℕ) (b : Bool) → j < 64 → n ≡ from_bool b → b ≡ p j
    → ((i : ℕ) → word_bit w i ≡ (nat_lt i j && p i))
    → (i : ℕ) → word_bit (bit_or w (n * 2 ^ j % 2 ^ 64)) i ≡ (nat_lt i (j + 1) && p i)
one_bit_more p w j n b h e t before i =
    let both : word_bit (bit_or w (n * 2 ^ j % 2 ^ 64)) i ≡ ((nat_lt i j && p i) || (eqb i j && b)) =
    word_bit-or w (n * 2 ^ j % 2 ^ 64) i
    ∙ λ k. before i k || (ap (λ x. word_bit (x * 2 ^ j % 2 ^ 64) i) e ∙ shifted_bit b j i h) k in
    both ∙
    elim (cases_lt i j) [
      | inl low ↦ rw (lt-ltb i j low, ne_eqb i j (λ s. absurd (omega arith)), lt-ltb i (j + 1) (omega arith)) (or_false (p i))
      | inr high ↦
          elim (cases_eq i j) [
            | inl same ↦ rw (le-ltb i j high, eq-eqb i j same, lt-ltb i (j + 1) (omega arith)) (t ∙ ap p (sym same))
            | inr other ↦ rw (le-ltb i j high, ne_eqb i j other, le-ltb i (j + 1) (omega arith)) refl
          ]
    ]

-- the same, of a comparison of two values
pub holds_one_more : (op : CompareOperator) (ls rs : List ℤ) (w j n : ℕ) (b : Bool) (x y : ℤ) → j < 64 → n ≡ from_bool b
    → b ≡ meets op (int_cmp x y) → x ≡ value_at ls j → y ≡ value_at rs j
    → ((i : ℕ) → word_bit w i ≡ (nat_lt i j && holds_at op ls rs i))
    → (i : ℕ) → word_bit (bit_or w (n * 2 ^ j % 2 ^ 64)) i ≡ (nat_lt i (j + 1) && holds_at op ls rs i)
holds_one_more op ls rs w j n b x y h e t l r = one_bit_more (holds_at op ls rs) w j n b h e (t ∙ λ k. meets op (int_cmp (l k) (r k)))

-- and of a value and one number
pub holds_with_one_more : (op : CompareOperator) (ls : List ℤ) (r : ℤ) (w j n : ℕ) (b : Bool) (x : ℤ) → j < 64 → n ≡ from_bool b
    → b ≡ meets op (int_cmp x r) → x ≡ value_at ls j
    → ((i : ℕ) → word_bit w i ≡ (nat_lt i j && holds_with op ls r i))
    → (i : ℕ) → word_bit (bit_or w (n * 2 ^ j % 2 ^ 64)) i ≡ (nat_lt i (j + 1) && holds_with op ls r i)
holds_with_one_more op ls r w j n b x h e t l = one_bit_more (holds_with op ls r) w j n b h e (t ∙ λ k. meets op (int_cmp (l k) r))

-- ---- one word more
module _ (ws : List ℕ) (k m w : ℕ) (p q : ℕ → Bool) (before : AreBits ws (64 * k) p)
    (here : (j : ℕ) → word_bit w j ≡ (nat_lt j m && q j)) (same : (j : ℕ) → j < m → q j ≡ p (64 * k + j)) (some : 0 < m) (few : m ≤ 64) where
  count_before : length ws ≡ k
  count_before = let e = before.count in omega arith

  old_bit : (i : ℕ) → i / 64 < k → bit_of (ws ++ w ∷ []) i ≡ bit_of ws i
  old_bit i h =
      let e = count_before in
      ap (λ x. word_bit x (i % 64)) (get_or_append_left ws (w ∷ []) 0 (i / 64) (omega arith))

  new_bit : (i : ℕ) → i / 64 ≡ k → bit_of (ws ++ w ∷ []) i ≡ word_bit w (i % 64)
  new_bit i h =
      let e = count_before in
      ap (λ x. word_bit x (i % 64)) (get_or_push ws w 0 (i / 64) (omega arith))

  pub one_word_more : (n : ℕ) → n ≡ 64 * k + m → AreBits (ws ++ w ∷ []) n p
  one_word_more n size = record {
    count = let e = count_before in let l = length_push ws w in omega arith;
    bits = λ i.
        elim (cases_lt (i / 64) k) [
          | inl low ↦
              old_bit i low ∙ before.bits i
              ∙ rw (lt-ltb i (64 * k) (omega arith), lt-ltb i n (omega arith)) refl
          | inr high ↦
              elim (cases_eq (i / 64) k) [
                | inl this ↦
                    let at : 64 * k + i % 64 ≡ i = omega arith in
                    new_bit i this ∙ here (i % 64) ∙
                    elim (cases_lt (i % 64) m) [
                      | inl within ↦
                          rw (lt-ltb (i % 64) m within, lt-ltb i n (omega arith)) (same (i % 64) within ∙ ap p at)
                      | inr out ↦ rw (le-ltb (i % 64) m out, le-ltb i n (omega arith)) refl
                    ]
                | inr past ↦
                    let e = count_before in
                    bit_of_past (ws ++ w ∷ []) i (omega (arith, length_push ws w)) ∙ sym (rw (le-ltb i n (omega arith)) refl)
              ]
        ];
  }

-- ---- the places of a part of a list
value_of_part : {X : Type 0} (f : X → ℤ) (xs : List X) (from m j : ℕ) → j < m
    → value_at (map f (take m (drop from xs))) j ≡ value_at (map f xs) (from + j)
value_of_part f xs from m j h =
    ap (λ l. value_at l j) (sym (take-map f m (drop from xs)) ∙ ap (take m) (sym (drop-map f from xs)))
    ∙ get_or-take m (drop from (map f xs)) j (pos 0) h
    ∙ get_or-drop from (map f xs) j (pos 0)

and_and : (x y z : Bool) → ((x && y) && z) ≡ (x && (y && z))
and_and false y z = refl
and_and true y z = refl

-- a word of answers, and-ed with the bits of a word
known_word : (w word m : ℕ) (q : ℕ → Bool) → ((j : ℕ) → word_bit w j ≡ (nat_lt j m && q j))
    → (j : ℕ) → word_bit (bit_and w word) j ≡ (nat_lt j m && (q j && word_bit word j))
known_word w word m q here j =
    word_bit-and w word j ∙ ap (λ x. x && word_bit word j) (here j) ∙ and_and (nat_lt j m) (q j) (word_bit word j)

module _ {X : Type 0} (f : X → ℤ) (op : CompareOperator) (known : List ℕ) (ls : List X) (ws : List ℕ) (k place from m w n : ℕ)
    (there : place ≡ k) (start : from ≡ 64 * k) (within : from + m ≤ length ls) (some : 0 < m) (few : m ≤ 64) (end : n ≡ from + m) where
  pub words_more : (rs : List X) (m' : ℕ) → m' ≡ m
      → AreBits ws (64 * k) (λ i. holds_at op (map f ls) (map f rs) i && bit_of known i)
      → ((j : ℕ) → word_bit w j
      ≡ (nat_lt j (length (take m (drop from ls))) && holds_at op (map f (take m (drop from ls))) (map f (take m' (drop from rs))) j))
      → AreBits (ws ++ bit_and w (get_or known place 0) ∷ []) n (λ i. holds_at op (map f ls) (map f rs) i && bit_of known i)
  words_more rs m' e before here =
      let part : ℕ → Bool = holds_at op (map f (take m (drop from ls))) (map f (take m' (drop from rs))) in
      one_word_more ws k m (bit_and w (get_or known place 0)) (λ i. holds_at op (map f ls) (map f rs) i && bit_of known i)
      (λ j. part j && word_bit (get_or known place 0) j) before
      (known_word w (get_or known place 0) m part (λ j. here j ∙ ap (λ l. nat_lt j l && part j) (length-chunk from m ls within)))
      (λ j h.
      let at : from + j ≡ 64 * k + j = omega arith in
      let l = value_of_part f ls from m j h ∙ ap (value_at (map f ls)) at in
      let r = value_of_part f rs from m' j (omega arith) ∙ ap (value_at (map f rs)) at in
      let b = sym (at_word known place j (64 * k + j) (omega arith) (omega arith)) in
      λ i. meets op (int_cmp (l i) (r i)) && b i)
      some few n (omega arith)

  pub words_with_more : (r : ℤ) → AreBits ws (64 * k) (λ i. holds_with op (map f ls) r i && bit_of known i)
      → ((j : ℕ) → word_bit w j ≡ (nat_lt j (length (take m (drop from ls))) && holds_with op (map f (take m (drop from ls))) r j))
      → AreBits (ws ++ bit_and w (get_or known place 0) ∷ []) n (λ i. holds_with op (map f ls) r i && bit_of known i)
  words_with_more r before here =
      let part : ℕ → Bool = holds_with op (map f (take m (drop from ls))) r in
      one_word_more ws k m (bit_and w (get_or known place 0)) (λ i. holds_with op (map f ls) r i && bit_of known i)
      (λ j. part j && word_bit (get_or known place 0) j) before
      (known_word w (get_or known place 0) m part (λ j. here j ∙ ap (λ l. nat_lt j l && part j) (length-chunk from m ls within)))
      (λ j h.
      let at : from + j ≡ 64 * k + j = omega arith in
      let l = value_of_part f ls from m j h ∙ ap (value_at (map f ls)) at in
      let b = sym (at_word known place j (64 * k + j) (omega arith) (omega arith)) in
      λ i. meets op (int_cmp (l i) r) && b i)
      some few n (omega arith)

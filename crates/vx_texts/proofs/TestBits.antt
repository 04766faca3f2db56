-- The answers of a test at the places of a list, 64 places a word.
use Rattle.std.proofs.Common.{◌≡◌, ℕ, ◌+◌, ◌*◌, ◌/◌, ◌%◌, ◌^◌, ◌<◌, ◌≤◌, List, [], ◌∷◌, ◌++◌, get_or, Bool, true, false, ◌&&◌, ◌||◌, eqb, nat_lt, refl, ◌∙◌, sym, ap, arith, inl, inr, eq-eqb}
use Rattle.std.proofs.lemmas.Bool.{cases_lt, cases_eq, lt-ltb, le-ltb, ne_eqb}
use Rattle.std.proofs.lemmas.List.{get_or_append_left, get_or_push, length_push}
use Rattle.std.proofs.lemmas.Nat.{one_shl}
use Rattle.std.proofs.lemmas.Nat.Bits.{bit_at-pow_same, bit_at-pow_other}
use Rattle.std.specs.Int.{from_bool}
use Rattle.std.specs.Prelude.{bit_and, bit_or, length}
use Rattle.vx_words.specs.Words.{word_bit, bit_of}
use Rattle.vx_words.proofs.BitLemmas.{bit_of_past, zero_bit, and_false, or_false}
use Rattle.vx_words.proofs.WordLemmas.{word_bit-and, word_bit-or}
use Rattle.vx_words.proofs.NextLemmas.{at_word}
use Rattle.vx_texts.specs.Layouts.{AreBits}

-- ---- one place more of a word
shifted_bit : (b : Bool) (j i : ℕ) → j < 64 → word_bit (from_bool b * 2 ^ j % 2 ^ 64) i ≡ (eqb i j && b)
shifted_bit false j i h = zero_bit (0 * 2 ^ j % 2 ^ 64) i (omega arith) ∙ sym (and_false (eqb i j))
shifted_bit true j i h =
    ap (λ x. word_bit x i) (one_shl j 64 h) ∙
    elim (cases_eq i j) [
      | inl same ↦ ap (λ x. word_bit (2 ^ j) x) same ∙ ap (λ x. eqb x 1) (bit_at-pow_same j) ∙ sym (rw (eq-eqb i j same) refl)
      | inr other ↦ ap (λ x. eqb x 1) (bit_at-pow_other j i other) ∙ sym (rw (ne_eqb i j other) refl)
    ]

pub one_bit_more : (p : ℕ → Bool) (w j n : ℕ) (b : Bool) → j < 64 → n ≡ from_bool b → b ≡ p j
    → ((i : ℕ) → word_bit w i ≡ (nat_lt i j && p i))
    → (i : ℕ) → word_bit (bit_or w (n * 2 ^ j % 2 ^ 64)) i ≡ (nat_lt i (j + 1) && p i)
one_bit_more p w j n b h e t before i =
    let both : word_bit (bit_or w (n * 2 ^ j % 2 ^ 64)) i ≡ ((nat_lt i j && p i) || (eqb i j && b)) =
    word_bit-or w (n * 2 ^ j % 2 ^ 64) i
    ∙ λ k. before i k || (ap (λ x. word_bit (x * 2 ^ j % 2 ^ 64) i) e ∙ shifted_bit b j i h) k in
    both ∙
    elim (cases_lt i j) [
      | inl low ↦ rw (lt-ltb i j low, ne_eqb i j (λ s. absurd (omega arith)), lt-ltb i (j + 1) (omega arith)) (or_false (p i))
      | inr high ↦
          elim (cases_eq i j) [
            | inl same ↦ rw (le-ltb i j high, eq-eqb i j same, lt-ltb i (j + 1) (omega arith)) (t ∙ ap p (sym same))
            | inr other ↦ rw (le-ltb i j high, ne_eqb i j other, le-ltb i (j + 1) (omega arith)) refl
          ]
    ]

-- ---- one word more
module _ (ws : List ℕ) (k m w : ℕ) (p q : ℕ → Bool) (before : AreBits ws (64 * k) p)
    (here : (j : ℕ) → word_bit w j ≡ (nat_lt j m && q j)) (same : (j : ℕ) → j < m → q j ≡ p (64 * k + j)) (some : 0 < m) (few : m ≤ 64) where
  count_before : length ws ≡ k
  count_before = let e = before.count in omega arith

  old_bit : (i : ℕ) → i / 64 < k → bit_of (ws ++ w ∷ []) i ≡ bit_of ws i
  old_bit i h =
      let e = count_before in
      ap (λ x. word_bit x (i % 64)) (get_or_append_left ws (w ∷ []) 0 (i / 64) (omega arith))

  new_bit : (i : ℕ) → i / 64 ≡ k → bit_of (ws ++ w ∷ []) i ≡ word_bit w (i % 64)
  new_bit i h =
      let e = count_before in
      ap (λ x. word_bit x (i % 64)) (get_or_push ws w 0 (i / 64) (omega arith))

  pub one_word_more : (n : ℕ) → n ≡ 64 * k + m → AreBits (ws ++ w ∷ []) n p
  one_word_more n size = record {
    count = let e = count_before in let l = length_push ws w in omega arith;
    bits = λ i.
        elim (cases_lt (i / 64) k) [
          | inl low ↦
              old_bit i low ∙ before.bits i
              ∙ rw (lt-ltb i (64 * k) (omega arith), lt-ltb i n (omega arith)) refl
          | inr high ↦
              elim (cases_eq (i / 64) k) [
                | inl this ↦
                    let at : 64 * k + i % 64 ≡ i = omega arith in
                    new_bit i this ∙ here (i % 64) ∙
                    elim (cases_lt (i % 64) m) [
                      | inl within ↦
                          rw (lt-ltb (i % 64) m within, lt-ltb i n (omega arith)) (same (i % 64) within ∙ ap p at)
                      | inr out ↦ rw (le-ltb (i % 64) m out, le-ltb i n (omega arith)) refl
                    ]
                | inr past ↦
                    let e = count_before in
                    bit_of_past (ws ++ w ∷ []) i (omega (arith, length_push ws w)) ∙ sym (rw (le-ltb i n (omega arith)) refl)
              ]
        ];
  }

and_and : (x y z : Bool) → ((x && y) && z) ≡ (x && (y && z))
and_and false y z = refl
and_and true y z = refl

-- a word of answers, and-ed with the bits of a word
known_word : (w word m : ℕ) (q : ℕ → Bool) → ((j : ℕ) → word_bit w j ≡ (nat_lt j m && q j))
    → (j : ℕ) → word_bit (bit_and w word) j ≡ (nat_lt j m && (q j && word_bit word j))
known_word w word m q here j =
    word_bit-and w word j ∙ ap (λ x. x && word_bit word j) (here j) ∙ and_and (nat_lt j m) (q j) (word_bit word j)

-- one word more of answers, of the places whose bit is set
pub words_more : (p : ℕ → Bool) (known ws : List ℕ) (k place from m w n : ℕ) → place ≡ k → from ≡ 64 * k → 0 < m → m ≤ 64 → n ≡ from + m
    → AreBits ws (64 * k) (λ i. p i && bit_of known i) → ((j : ℕ) → word_bit w j ≡ (nat_lt j m && p (from + j)))
    → AreBits (ws ++ bit_and w (get_or known place 0) ∷ []) n (λ i. p i && bit_of known i)
words_more p known ws k place from m w n there start some few end before here =
    one_word_more ws k m (bit_and w (get_or known place 0)) (λ i. p i && bit_of known i) (λ j. p (from + j) && word_bit (get_or known place 0) j) before
    (known_word w (get_or known place 0) m (λ j. p (from + j)) here)
    (λ j h.
    let at : from + j ≡ 64 * k + j = omega (arith, start) in
    let b = sym (at_word known place j (64 * k + j) (omega (arith, there)) (omega (arith, few, h))) in
    λ i. p (at i) && b i)
    some few n (omega (arith, start, end))

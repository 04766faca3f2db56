-- The bits of a word from its lowest on, one after the other, and what is kept by them.
use Rattle.std.proofs.Common.{◌≡◌, ℕ, ◌+◌, ◌-◌, ◌*◌, ◌%◌, ◌^◌, ◌<◌, ◌≤◌, List, ◌∷◌, get_or, length, Bool, true, false, eqb, Option, ◌∙◌, sym, ap, arith, inl, inr, w64}
use Rattle.std.proofs.lemmas.Bool.{cases_lt, cases_eq}
use Rattle.std.proofs.lemmas.Nat.{trailing_le, and_le_l}
use Rattle.std.proofs.lemmas.Nat.Bits.{bit_at-trailing_zeros, bit_at_clear_same, bit_at_clear_other}
use Rattle.std.specs.Int.{bit_not, trailing_zeros}
use Rattle.std.specs.Int.Count.{trailing_of_zero}
use Rattle.std.specs.Prelude.{bit_and}
use Rattle.vx_words.specs.Words.{word_bit, bit_of}
use Rattle.vx_words.specs.Truths.{true_at}
use Rattle.vx_words.proofs.BitLemmas.{zero_bit}
use Rattle.vx_words.proofs.KeptLemmas.{kept_from, kept_past, kept_here}
use Rattle.vx_words.proofs.NextLemmas.{pos_of_not_zero, set_bit_of, clear_bit_of, at_word}

-- the place of the lowest bit that is set, 64 where none is
abbrev pub lowest : ℕ → ℕ
lowest word = trailing_zeros w64 word

abbrev pub without_lowest : ℕ → ℕ
without_lowest word = bit_and word (bit_not w64 (1 * 2 ^ lowest word % 2 ^ 64))

pub none_below : (word j : ℕ) → word < 2 ^ 64 → j < lowest word → word_bit word j ≡ false
none_below word j fits h =
    elim (cases_lt 0 word) [
      | inl some ↦ clear_bit_of _ ((bit_at-trailing_zeros w64 word some fits).2 j h)
      | inr none ↦ zero_bit word j (omega arith)
    ]

module _ (word : ℕ) (fits : word < 2 ^ 64) (other : word ≡ 0 → ⊥) where
  pub lowest_within : lowest word < 64
  lowest_within = (bit_at-trailing_zeros w64 word (pos_of_not_zero word other) fits).0

  pub lowest_set : word_bit word (lowest word) ≡ true
  lowest_set = set_bit_of _ (bit_at-trailing_zeros w64 word (pos_of_not_zero word other) fits).1

  pub rest_fits : without_lowest word < 2 ^ 64
  rest_fits = omega (arith, and_le_l word (bit_not w64 (1 * 2 ^ lowest word % 2 ^ 64)))

  pub rest_above : (j : ℕ) → j < 64 → lowest word < j → word_bit (without_lowest word) j ≡ word_bit word j
  rest_above j small h =
      ap (λ x. eqb x 1) (bit_at_clear_other w64 word (lowest word) lowest_within j small (λ e. absurd (omega arith)))

  rest_none : (j : ℕ) → j ≤ lowest word → word_bit (without_lowest word) j ≡ false
  rest_none j h =
      let within = lowest_within in
      elim (cases_eq j (lowest word)) [
        | inl same ↦ ap (word_bit (without_lowest word)) same ∙ clear_bit_of _ (bit_at_clear_same w64 word (lowest word) within)
        | inr apart ↦
            ap (λ x. eqb x 1) (bit_at_clear_other w64 word (lowest word) within j (omega arith) apart)
            ∙ none_below word j fits (omega arith)
      ]

  pub rest_later : lowest word < lowest (without_lowest word)
  rest_later =
      let within = lowest_within in
      let rest : ℕ = without_lowest word in
      elim (cases_lt (lowest word) (lowest rest)) [
        | inl low ↦ low
        | inr high ↦
            elim (cases_lt 0 rest) [
              | inl some ↦
                  absurd (let both : true ≡ false = sym (set_bit_of _ (bit_at-trailing_zeros w64 rest some rest_fits).1) ∙ rest_none (lowest rest) high in cc)
              | inr none ↦
                  let nothing : rest ≡ 0 = omega arith in
                  let last : lowest rest ≡ 64 = ap (trailing_zeros w64) nothing ∙ trailing_of_zero 64 in
                  absurd (omega arith)
            ]
      ]

module _ {X : Type 0} (xs : List X) (ks : List (Option Bool)) (b : List ℕ) (k : ℕ) (seen : (i : ℕ) → true_at ks i ≡ bit_of b i) where
  -- the word has the bits of the k-th from its lowest on
  abbrev IsRest : ℕ → Type 0
  IsRest word = (j : ℕ) → lowest word ≤ j → j < 64 → word_bit word j ≡ word_bit (get_or b k 0) j

  true_in : (word p : ℕ) → IsRest word → 64 * k + lowest word ≤ p → p < 64 * k + 64 → true_at ks p ≡ word_bit word (p - 64 * k)
  true_in word p rest lo hi =
      seen p
      ∙ at_word b k (p - 64 * k) p (omega arith) (omega arith)
      ∙ sym (rest (p - 64 * k) (omega arith) (omega arith))

  pub kept_first : (word : ℕ) → word ≡ get_or b k 0 → word < 2 ^ 64 → kept_from xs ks (64 * k) ≡ kept_from xs ks (64 * k + lowest word)
  kept_first word e fits =
      let most = trailing_le 64 word in
      kept_past xs ks (64 * k) (64 * k + lowest word) (omega arith)
      (λ p lo hi.
      seen p
      ∙ at_word b k (p - 64 * k) p (omega arith) (omega arith)
      ∙ ap (λ w. word_bit w (p - 64 * k)) (sym e)
      ∙ none_below word (p - 64 * k) fits (omega arith))

  pub kept_last : (word : ℕ) → IsRest word → word ≡ 0 → kept_from xs ks (64 * k + lowest word) ≡ kept_from xs ks (64 * (k + 1))
  kept_last word rest e =
      let most = trailing_le 64 word in
      kept_past xs ks (64 * k + lowest word) (64 * (k + 1)) (omega arith)
      (λ p lo hi. true_in word p rest lo (omega arith) ∙ zero_bit word (p - 64 * k) e)

  module _ (word : ℕ) (fits : word < 2 ^ 64) (other : word ≡ 0 → ⊥) (rest : IsRest word) where
    pub true_there : true_at ks (64 * k + lowest word) ≡ true
    true_there =
        let within = lowest_within word fits other in
        true_in word (64 * k + lowest word) rest (omega arith) (omega arith)
        ∙ ap (word_bit word) (let place : 64 * k + lowest word - 64 * k ≡ lowest word = omega arith in place)
        ∙ lowest_set word fits other

    pub rest_is_rest : IsRest (without_lowest word)
    rest_is_rest j lo small =
        let later = rest_later word fits other in
        rest_above word fits other j small (omega arith) ∙ rest j (omega arith) small

    pub kept_next : (x : X) → 64 * k + lowest word < length xs → get_or xs (64 * k + lowest word) x ≡ x
        → kept_from xs ks (64 * k + lowest word) ≡ x ∷ kept_from xs ks (64 * k + lowest (without_lowest word))
    kept_next x h there =
        let later = rest_later word fits other in
        let most = trailing_le 64 (without_lowest word) in
        kept_here xs ks (64 * k + lowest word) x h true_there there
        ∙ ap (λ ys. x ∷ ys)
        (kept_past xs ks (64 * k + lowest word + 1) (64 * k + lowest (without_lowest word)) (omega arith)
        (λ p lo hi.
        true_in word p rest (omega arith) (omega arith)
        ∙ sym (rest_above word fits other (p - 64 * k) (omega arith) (omega arith))
        ∙ none_below (without_lowest word) (p - 64 * k) (rest_fits word fits other) (omega arith)))

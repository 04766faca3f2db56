-- Truths at the places of words that have bits for no more places than they need.
use Rattle.std.specs.Prelude.{◌≡◌, ℕ, ◌+◌, ◌/◌, ◌≤◌, Bool, true, false, Option, Some, None, List, [], ◌∷◌, cond, length, map, slice_index_or}
use Rattle.std.specs.List.{range_with_len}
use Rattle.vx_dtype.specs.Values.{Val}
use Rattle.vx_words.specs.Words.{bit_of, truth_of_words, truth_val, AreBareUnderNull}

-- how many words this many places need
abbrev pub words_for : ℕ → ℕ
words_for n = (n + 63) / 64

-- the truths at the first n places
abbrev pub truths_of_words : List ℕ → List ℕ → ℕ → List (Option Bool)
truths_of_words valid values n = map (truth_of_words valid values) (range_with_len 0 n)

-- as many words as n places need; no bit is set from place n on, nor in the values where the truth is null
pub record AreTidy (n : ℕ) (valid values : List ℕ) : Type 0 where
  pub valid_length : length valid ≡ words_for n
  pub values_length : length values ≡ words_for n
  pub past : (i : ℕ) → n ≤ i → bit_of valid i ≡ false
  pub bare : AreBareUnderNull valid values

-- the values that truths stand for
abbrev pub vals_of : List (Option Bool) → List Val
vals_of truths = map truth_val truths

-- whether a truth is true
abbrev pub is_true : Option Bool → Bool
is_true (Some true) = true
is_true _ = false

-- whether the truth at a place is true
abbrev pub true_at : List (Option Bool) → ℕ → Bool
true_at truths i = is_true (slice_index_or truths i None)

-- what stands at a place, and none where the truth is true
abbrev pub hidden_if : {A : Type 0} → Option A → Option Bool → Option A
hidden_if x t = cond (is_true t) None x

-- the items at the places where the list of truths is true
abbrev pub kept_items : {X : Type 0} → List X → List (Option Bool) → List X
kept_items [] ks = []
kept_items (x ∷ xs) [] = []
kept_items (x ∷ xs) (k ∷ ks) = cond (is_true k) (x ∷ kept_items xs ks) (kept_items xs ks)

-- Numbers kept as a list of values beside words of validity, a bit for each place.
use Rattle.std.specs.Prelude.{◌≡◌, ℕ, ◌≤◌, ℤ, pos, Bool, false, ◌&&◌, nat_lt, Option, Some, None, List, cond, length, map, slice_index_or}
use Rattle.std.specs.List.{range_with_len}
use Rattle.std.specs.Ordering.{int_cmp}
use Rattle.vx_dtype.specs.declared.CompareOperator.{CompareOperator}
use Rattle.vx_dtype.specs.Order.{meets}
use Rattle.vx_words.specs.Words.{bit_of}
use Rattle.vx_words.specs.Truths.{words_for}

-- the value at a place, 0 past the end
abbrev pub value_at : List ℤ → ℕ → ℤ
value_at values i = slice_index_or values i (pos 0)

-- the number that a value is where it is known, else none
abbrev pub number_of : Bool → ℤ → Option ℤ
number_of known value = cond known (Some value) None

-- the number at a place: the value where the bit is set, else none
abbrev pub number_in : List ℕ → List ℤ → ℕ → Option ℤ
number_in valid values i = number_of (bit_of valid i) (value_at values i)

-- the numbers at all places of the values
abbrev pub numbers_of : List ℕ → List ℤ → List (Option ℤ)
numbers_of valid values = map (number_in valid values) (range_with_len 0 (length values))

-- as many words as the values need; no bit is set past the last value
pub record AreTidyNumbers (valid : List ℕ) (values : List ℤ) : Type 0 where
  pub valid_length : length valid ≡ words_for (length values)
  pub past : (i : ℕ) → length values ≤ i → bit_of valid i ≡ false

-- the words have the answers of a test at the first n places, and no bit for another place
pub record AreBits (words : List ℕ) (n : ℕ) (test : ℕ → Bool) : Type 0 where
  pub count : length words ≡ words_for n
  pub bits : (i : ℕ) → bit_of words i ≡ (nat_lt i n && test i)

-- whether a comparison is true of the values at a place, and of a value and one number
abbrev pub holds_at : CompareOperator → List ℤ → List ℤ → ℕ → Bool
holds_at op ls rs i = meets op (int_cmp (value_at ls i) (value_at rs i))

abbrev pub holds_with : CompareOperator → List ℤ → ℤ → ℕ → Bool
holds_with op ls r i = meets op (int_cmp (value_at ls i) r)

-- Texts kept in one buffer beside words of validity, a bit for each place.
use Rattle.std.specs.Prelude.{◌≡◌, ℕ, ◌^◌, ◌<◌, ◌≤◌, Bool, false, ◌&&◌, nat_lt, Option, Some, None, List, [], cond, length, map, slice_index_or, sum_by}
use Rattle.std.specs.List.{range_with_len}
use Rattle.vx_dtype.specs.Types.{Bytes}
use Rattle.vx_words.specs.Words.{bit_of}
use Rattle.vx_words.specs.Truths.{words_for}
use Rattle.vx_texts.specs.Texts.{byte_total}

-- the bytes at a place, none past the end
abbrev pub bytes_at : List Bytes → ℕ → Bytes
bytes_at values i = slice_index_or values i []

-- the text that bytes are where it is known, else none
abbrev pub text_of : Bool → Bytes → Option Bytes
text_of known s = cond known (Some s) None

-- the text at a place: the bytes where the bit is set, else none
abbrev pub text_in : List ℕ → List Bytes → ℕ → Option Bytes
text_in valid values i = text_of (bit_of valid i) (bytes_at values i)

-- the texts at all places of the buffer
abbrev pub texts_of : List ℕ → List Bytes → List (Option Bytes)
texts_of valid values = map (text_in valid values) (range_with_len 0 (length values))

-- as many words as the buffer's texts need; no bit is set past the last
pub record AreTidyTexts (valid : List ℕ) (values : List Bytes) : Type 0 where
  pub valid_length : length valid ≡ words_for (length values)
  pub past : (i : ℕ) → length values ≤ i → bit_of valid i ≡ false
  pub few : sum_by length values < 2 ^ 32

-- besides, no bytes stand where there is no text
abbrev pub AreBareTexts : List ℕ → List Bytes → Type 0
AreBareTexts valid values = AreTidyTexts valid values × (byte_total (texts_of valid values) ≡ sum_by length values)

-- the words have the answers of a test at the first n places, and no bit for another place
pub record AreBits (words : List ℕ) (n : ℕ) (test : ℕ → Bool) : Type 0 where
  pub count : length words ≡ words_for n
  pub bits : (i : ℕ) → bit_of words i ≡ (nat_lt i n && test i)

-- Truths kept as words of bits: for each place a bit that says whether there is a truth, and a bit that says which.
use Rattle.std.specs.Prelude.{◌≡◌, ℕ, ◌*◌, ◌/◌, ◌%◌, ◌<◌, ◌≤◌, Bool, true, false, ◌==◌, Option, Some, None, List, length, slice_index}
use Rattle.std.specs.Int.{bit_at}
use Rattle.vx_dtype.specs.Values.{Val, null_val, bool_val}

-- whether the bit at a place of a word of 64 bits is 1, counted from the least
abbrev pub word_bit : ℕ → ℕ → Bool
word_bit word i = bit_at word i == 1

-- the bit at a place of a list of words
abbrev pub bit_of : List ℕ → ℕ → Bool
bit_of words i = word_bit (slice_index words (i / 64)) (i % 64)

-- the truth that two bits hold: none where the first, that of validity, is not set
abbrev pub truth_of_bits : Bool → Bool → Option Bool
truth_of_bits false value = None
truth_of_bits true value = Some value

-- the truth at a place of words of validity and words of values
abbrev pub truth_of_words : List ℕ → List ℕ → ℕ → Option Bool
truth_of_words valid values i = truth_of_bits (bit_of valid i) (bit_of values i)

-- the value that a truth stands for
abbrev pub truth_val : Option Bool → Val
truth_val None = null_val
truth_val (Some b) = bool_val b

-- the value at a place of words of validity and words of values
abbrev pub val_of_words : List ℕ → List ℕ → ℕ → Val
val_of_words valid values i = truth_val (truth_of_words valid values i)

-- no value bit is set where the truth is null
abbrev pub AreBareUnderNull : List ℕ → List ℕ → Type 0
AreBareUnderNull valid values = (i : ℕ) → i < 64 * length valid → bit_of valid i ≡ false → bit_of values i ≡ false

-- the truth at a place is that of a value, and no value bit is set under null
abbrev pub Holds : List ℕ → List ℕ → ℕ → Val → Type 0
Holds valid values i v = (val_of_words valid values i ≡ v) × (bit_of valid i ≡ false → bit_of values i ≡ false)

-- the first n words are as they were
abbrev pub KeepFirst : ℕ → List ℕ → List ℕ → Type 0
KeepFirst n old new = (k : ℕ) → k < n → slice_index new k ≡ slice_index old k

-- two lists of words have the same bit at each place
abbrev pub HaveSameBits : List ℕ → List ℕ → Type 0
HaveSameBits left right = (i : ℕ) → bit_of left i ≡ bit_of right i

-- of n places k is the first from one on at which p holds
pub record IsFirstPlace (p : ℕ → Bool) (n from k : ℕ) : Type 0 where
  pub from_there : from ≤ k
  pub within : k < n
  pub holds : p k ≡ true
  pub none_before : (i : ℕ) → from ≤ i → i < k → p i ≡ false

-- the first of n places from one on at which p holds; none where p holds at none of them
abbrev pub IsNextPlace : (ℕ → Bool) → ℕ → ℕ → Option ℕ → Type 0
IsNextPlace p n from None = (i : ℕ) → from ≤ i → i < n → p i ≡ false
IsNextPlace p n from (Some k) = IsFirstPlace p n from k

-- the words of validity and of values of two sides and of an answer are as many
abbrev pub AreAsLong : List ℕ → List ℕ → List ℕ → List ℕ → List ℕ → List ℕ → Type 0
AreAsLong lv lb rv rb ov ob =
    (length lb ≡ length lv) × (length rv ≡ length lv) × (length rb ≡ length lv) × (length ov ≡ length lv) × (length ob ≡ length lv)

-- the words of an answer are as many as those of the two sides, have at each place what a connective makes of these, and no value under null
abbrev pub AreConnected : (Val → Val → Val) → List ℕ → List ℕ → List ℕ → List ℕ → List ℕ → List ℕ → Type 0
AreConnected both lv lb rv rb ov ob =
    (length ov ≡ length lv) × (length ob ≡ length lv)
    × ((i : ℕ) → i < 64 * length lv → val_of_words ov ob i ≡ both (val_of_words lv lb i) (val_of_words rv rb i))
    × AreBareUnderNull ov ob

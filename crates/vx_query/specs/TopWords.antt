-- What the words of `top` ask: the first so many rows by a column, in a direction; and which names are no key of a request's table.
use Rattle.std.specs.Prelude.{◌≡◌, ◌↔◌, ℕ, ◌≤◌, Bool, false, Option, Some, None, decimal}
use Rattle.vx_dtype.specs.Types.{Bytes, Ty}
use Rattle.vx_dtype.specs.TypeRules.{field_type, is_plain}
use Rattle.vx_request.specs.Requests.{RequestedScan}
use Rattle.vx_query.specs.NumberWords.{number_of_word}

-- the name of the key, whether the greatest keys are the first, and how many rows
pub record AskedTop : Type 0 where
  pub key : Bytes
  pub descending : Bool
  pub count : ℕ

-- the most rows that are asked
abbrev pub most_count : ℕ
most_count = 1048576

-- how many rows a word asks, where it tells a number
abbrev pub count_of_word : Bytes → Option ℕ
count_of_word word = number_of_word most_count word

-- a word asks a number of rows exactly where it is the number's decimal digits and the number is at most the most
abbrev pub WordsTellCounts : Type 0
WordsTellCounts = (word : Bytes) (count : ℕ) → (count_of_word word ≡ Some count) ↔ ((word ≡ decimal count) × (count ≤ most_count))

-- why a name is no key: no column has it, or one whose type isn't plain
pub data KeyRefusal : Type 0 where
  unknown_key : KeyRefusal
  bad_key : KeyRefusal

-- a name is no key of the table of a request
abbrev pub IsNoKey : KeyRefusal → Bytes → RequestedScan → Type 0
IsNoKey unknown_key key a = field_type key a.zones.columns ≡ None
IsNoKey bad_key key a = (t : Ty) × (field_type key a.zones.columns ≡ Some t) × (is_plain t ≡ false)

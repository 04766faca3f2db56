-- The number of rows that a word tells: at most 200,000, in decimal digits, of which no 0 stands before others.
use Rattle.std.specs.Prelude.{◌≡◌, ◌↔◌, ℕ, ◌≤◌, Option, Some, decimal}
use Rattle.vx_dtype.specs.Types.{Bytes}
use Rattle.vx_query.specs.NumberWords.{number_of_word}

-- the most rows
abbrev pub most_rows : ℕ
most_rows = 200000

-- the number of rows that a word tells, where it tells one
abbrev pub rows_of_word : Bytes → Option ℕ
rows_of_word word = number_of_word most_rows word

-- a word tells a number of rows exactly where it is the number's decimal digits and the number is at most the most
abbrev pub WordsTellRows : Type 0
WordsTellRows = (word : Bytes) (rows : ℕ) → (rows_of_word word ≡ Some rows) ↔ ((word ≡ decimal rows) × (rows ≤ most_rows))

-- Why a text is no table. Rows are counted from 1 behind the first line, which is row 0; columns are counted from 1.
use Rattle.std.specs.Prelude.{ℕ, Result, Ok, Err, Option, Some, None}
use Rattle.vx_dtype.specs.Types.{Bytes, Ty}

pub data Refusal : Type 0 where
  -- a quote is open at the end of the text
  quote_left_open : Refusal
  -- there is no line of names
  no_header : Refusal
  -- a cell that isn't UTF-8, by its row and column
  not_text : ℕ → ℕ → Refusal
  -- a name stands twice
  name_twice : Refusal
  -- a row of another length: the row, how many cells it has, and how many names there are
  other_length : ℕ → ℕ → ℕ → Refusal
  -- more rows than are asked for, by their number
  too_many_rows : ℕ → Refusal
  -- the names aren't those of the given columns, in their order
  other_names : Refusal
  -- a given column that is of no plain type, by its number, with its type
  not_plain : ℕ → Ty → Refusal
  -- a cell that is no value of its column's type: the row, the column, the cell and the type
  bad_cell : ℕ → ℕ → Bytes → Ty → Refusal

-- what a step gives over what the step before it gave, or its refusal
infixl 20 ◌>>=◌
abbrev pub ◌>>=◌ : {X Y : Type 0} → Result X Refusal → (X → Result Y Refusal) → Result Y Refusal
(Ok x) >>= next = next x
(Err r) >>= next = Err r

-- the refusal where there is one, else the answer
abbrev pub unless_refused : {X : Type 0} → Option Refusal → Result X Refusal → Result X Refusal
unless_refused None answer = answer
unless_refused (Some r) answer = Err r

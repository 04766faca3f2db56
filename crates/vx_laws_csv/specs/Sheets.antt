-- The records of a text of CSV, by the grammar of the kit's reader, and their form: a first line of names, and rows that are as long.
use Rattle.std.specs.Prelude.{ℕ, ◌+◌, nat_eq, Bool, true, false, cond, List, [], ◌∷◌, length, Result, Ok, Err, Option, Some, None}
use Rattle.std.specs.List.{list_all}
use Rattle.std.specs.Option.{option_or}
use Rattle.std.specs.Str.{is_utf8}
use Rattle.csv.specs.Machine.{step}
use Rattle.csv.specs.Reading.{default_config, records, strip_bom}
use Rattle.csv.specs.declared.parser.State.{State}
use Rattle.csv.specs.declared.parser.State.TheVariants as st
use Rattle.vx_dtype.specs.Types.{Bytes}
use Rattle.vx_dtype.specs.TypeRules.{distinct_names}
use Rattle.vx_laws_csv.specs.Refusals.{Refusal, quote_left_open, not_text, name_twice, other_length}

-- the state of the reader behind a text, from a state on
unfoldable pub state_behind : State → Bytes → State
state_behind s [] = s
state_behind s (b ∷ text) = state_behind (step default_config s b).0 text

-- whether a state is between two quotes
abbrev pub is_quoted : State → Bool
is_quoted st.InQuoted = true
is_quoted _ = false

-- whether a quote is open at the end of a text
abbrev pub leaves_quote_open : Bytes → Bool
leaves_quote_open text = is_quoted (state_behind st.StartRecord text)

-- the records of a text, behind the mark of its byte order where it has one, each a list of cells. Blank lines are none.
abbrev pub records_of : Bytes → Result (List (List Bytes)) Refusal
records_of text = cond (leaves_quote_open (strip_bom text)) (Err quote_left_open) (Ok (records default_config (strip_bom text)))

-- the first cell of a row that isn't UTF-8, from a column on
abbrev pub text_refusal : ℕ → ℕ → List Bytes → Option Refusal
text_refusal row column [] = None
text_refusal row column (s ∷ cells) = cond (is_utf8 s) (text_refusal row (column + 1) cells) (Some (not_text row column))

-- why a row is none of a table of so many columns: it is of another length, else a cell isn't UTF-8
abbrev pub row_refusal : ℕ → ℕ → List Bytes → Option Refusal
row_refusal width row cells = cond (nat_eq (length cells) width) (text_refusal row 1 cells) (Some (other_length row (length cells) width))

-- why rows are none of a table, the first in their order, from a row on
abbrev pub rows_refusal : ℕ → ℕ → List (List Bytes) → Option Refusal
rows_refusal width row [] = None
rows_refusal width row (r ∷ rows) = option_or (row_refusal width row r) (rows_refusal width (row + 1) rows)

-- why names are none of a table: two of them are the same
abbrev pub names_refusal : List Bytes → Option Refusal
names_refusal names = cond (distinct_names names) None (Some name_twice)

-- why a first line and the rows behind it are no table
abbrev pub form_refusal : List Bytes → List (List Bytes) → Option Refusal
form_refusal names rows = option_or (text_refusal 0 1 names) (option_or (names_refusal names) (rows_refusal (length names) 1 rows))

-- whether each cell of each row is UTF-8
abbrev pub are_texts : List (List Bytes) → Bool
are_texts rows = list_all (list_all is_utf8) rows

-- What the words of `write` ask: a table of the standard input is kept as a block file, or as block files of a folder.
use Rattle.std.specs.Prelude.{ℕ, nat_le, Bool, true, false, cond, ◌&&◌, ◌||◌, List, [], ◌∷◌, codes, Option, Some, None, option_map, is_some, unwrap_or}
use Rattle.std.specs.Option.{option_and_then}
use Rattle.std.specs.Str.{bytes_eq}
use Rattle.vx_dtype.specs.Types.{Bytes, Fields}
use Rattle.vx_laws_csv.specs.GivenColumns.{columns_given}
use Rattle.vx_laws_file.specs.FileForms.{most_rows}
use Rattle.vx_laws_shell.specs.Words.{number_of_word}

-- what stands on the standard input: a table as JSON; or a text of CSV with its null text, at given columns or with types that are found
pub data InputForm : Type 0 where
  of_json : InputForm
  of_csv : Bytes → Option Fields → InputForm

-- the path of the file, or of the folder where it ends in `/`; the form of the input; how many rows each block has but the last, where they are named; and whether what stands there is replaced
pub record WriteAsk : Type 0 where
  pub path : Bytes
  pub form : InputForm
  pub rows : Option ℕ
  pub replaces : Bool

-- the number of rows of a block that a word tells: at least one, and no more than a file has
abbrev pub rows_within : ℕ → Option ℕ
rows_within n = cond (nat_le 1 n && nat_le n most_rows) (Some n) None

abbrev pub rows_of_word : Bytes → Option ℕ
rows_of_word word = option_and_then rows_within (number_of_word word)

-- what options say: the rows of a block, the null text, the text that gives the columns, and whether what stands is replaced
pub record Options : Type 0 where
  pub rows : Option ℕ
  pub null : Option Bytes
  pub types : Option Bytes
  pub replaces : Bool

-- no option
abbrev pub no_options : Options
no_options = record { rows = None; null = None; types = None; replaces = false }

-- options with one more, which they haven't yet
abbrev pub and_force : Options → Option Options
and_force o = cond o.replaces None (Some (record o { replaces = true }))

abbrev pub and_rows : Options → Bytes → Option Options
and_rows o word = cond (is_some o.rows) None (option_map (λ n. record o { rows = Some n }) (rows_of_word word))

abbrev pub and_null : Options → Bytes → Option Options
and_null o word = cond (is_some o.null) None (Some (record o { null = Some word }))

abbrev pub and_types : Options → Bytes → Option Options
and_types o word = cond (is_some o.types) None (Some (record o { types = Some word }))

-- the words of options: one alone, and those behind which a word of theirs stands
abbrev pub is_force_word : Bytes → Bool
is_force_word word = bytes_eq word (codes "--force")

abbrev pub and_option : Options → Bytes → Bytes → Option Options
and_option o option word =
    cond (bytes_eq option (codes "--rows")) (and_rows o word)
    (cond (bytes_eq option (codes "--null")) (and_null o word)
    (cond (bytes_eq option (codes "--types")) (and_types o word) None))

-- what words of options say behind others, in any order, each at most once; none where they are of no form
unfoldable pub options_behind : Options → List Bytes → Option Options
options_behind o [] = Some o
options_behind o (option ∷ []) = cond (is_force_word option) (and_force o) None
options_behind o (option ∷ word ∷ words) =
    cond (is_force_word option) (option_and_then (λ more. options_behind more (word ∷ words)) (and_force o))
    (option_and_then (λ more. options_behind more words) (and_option o option word))

-- what options ask of a path where the input is a table as JSON, which has neither a null text nor columns of its own
abbrev pub write_json : Bytes → Options → Option WriteAsk
write_json path o = cond (is_some o.null || is_some o.types) None (Some (record { path = path; form = of_json; rows = o.rows; replaces = o.replaces }))

-- the columns that an option gives: none where it isn't there, and its text has to give some
abbrev pub columns_asked : Option Bytes → Option (Option Fields)
columns_asked None = Some None
columns_asked (Some text) = option_map Some (columns_given text)

-- what options ask of a path where the input is a text of CSV: the null text is empty where none is told
abbrev pub write_csv_at : Bytes → Options → Option Fields → WriteAsk
write_csv_at path o columns = record { path = path; form = of_csv (unwrap_or o.null []) columns; rows = o.rows; replaces = o.replaces }

abbrev pub write_csv : Bytes → Options → Option WriteAsk
write_csv path o = option_map (write_csv_at path o) (columns_asked o.types)

-- what is asked behind `write` by a path, the word `csv` where the input is a text of CSV, and options
abbrev pub is_csv_word : Bytes → Bool
is_csv_word word = bytes_eq word (codes "csv")

abbrev pub json_behind : Bytes → List Bytes → Option WriteAsk
json_behind path words = option_and_then (write_json path) (options_behind no_options words)

abbrev pub csv_behind : Bytes → List Bytes → Option WriteAsk
csv_behind path words = option_and_then (write_csv path) (options_behind no_options words)

abbrev pub write_behind : List Bytes → Option WriteAsk
write_behind [] = None
write_behind (path ∷ []) = json_behind path []
write_behind (path ∷ word ∷ words) = cond (is_csv_word word) (csv_behind path words) (json_behind path (word ∷ words))

-- what words ask; none where they have not this form
unfoldable pub write_asked_of : List Bytes → Option WriteAsk
write_asked_of [] = None
write_asked_of (word ∷ words) = cond (bytes_eq word (codes "write")) (write_behind words) None

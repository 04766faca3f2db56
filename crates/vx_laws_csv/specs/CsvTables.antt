-- The table of the rows of a CSV at types, cut into blocks, and what a text is with types that are found or given.
use Rattle.std.specs.Prelude.{ℕ, zero, suc, ◌+◌, nat_le, Bool, true, ◌&&◌, cond, List, [], ◌∷◌, map, length, take, drop, Result, Ok, Err, Option, Some, None}
use Rattle.std.specs.List.{list_all}
use Rattle.std.specs.Option.{option_or}
use Rattle.vx_dtype.specs.Types.{Bytes, Ty, Fields, no_fields, field}
use Rattle.vx_dtype.specs.TypeRules.{is_plain, field_names}
use Rattle.vx_dtype.specs.StructTypes.{field_types}
use Rattle.vx_dtype.specs.Equal.{names_eq}
use Rattle.vx_dtype.specs.Zipped.{zipped}
use Rattle.vx_dtype.specs.Values.{Val, struct_val, Members, no_members, member}
use Rattle.vx_column.specs.Columns.{Column, column}
use Rattle.vx_semantics.specs.Tables.{Zones}
use Rattle.vx_laws_csv.specs.Cells.{takes, cell_val, cell_at}
use Rattle.vx_laws_csv.specs.FoundTypes.{all_taken, found_types}
use Rattle.vx_laws_csv.specs.Sheets.{records_of, form_refusal}
use Rattle.vx_laws_csv.specs.Refusals.{Refusal, no_header, too_many_rows, other_names, not_plain, bad_cell, ◌>>=◌, unless_refused}

-- the first cell of a row that is no value of its column's type, from a place on, counted from 0
abbrev pub cells_refusal : Bytes → ℕ → ℕ → List Ty → List Bytes → Option Refusal
cells_refusal null row i [] cells = None
cells_refusal null row i (t ∷ ts) cells =
    cond (takes null t (cell_at i cells)) (cells_refusal null row (i + 1) ts cells) (Some (bad_cell row (i + 1) (cell_at i cells) t))

-- the first such cell of rows, in their order, from a row on
abbrev pub values_refusal : Bytes → List Ty → ℕ → List (List Bytes) → Option Refusal
values_refusal null ts row [] = None
values_refusal null ts row (r ∷ rows) = option_or (cells_refusal null row 0 ts r) (values_refusal null ts (row + 1) rows)

-- whether each cell of a row is a value of its column's type, from a place on, and whether each of rows is
abbrev pub row_taken : Bytes → ℕ → List Ty → List Bytes → Bool
row_taken null i [] cells = true
row_taken null i (t ∷ ts) cells = takes null t (cell_at i cells) && row_taken null (i + 1) ts cells

abbrev pub rows_taken : Bytes → List Ty → List (List Bytes) → Bool
rows_taken null ts rows = list_all (row_taken null 0 ts) rows

-- the same, column by column
abbrev pub columns_taken : Bytes → ℕ → List Ty → List (List Bytes) → Bool
columns_taken null i [] rows = true
columns_taken null i (t ∷ ts) rows = all_taken null t (map (cell_at i) rows) && columns_taken null (i + 1) ts rows

-- the first part of a list, and so on, each of so many items but the last, which may have fewer: at most so many parts
abbrev pub parts_within : {A : Type 0} → ℕ → ℕ → List A → List (List A)
parts_within zero size xs = []
parts_within (suc most) size [] = []
parts_within (suc most) size (x ∷ xs) = take size (x ∷ xs) ∷ parts_within most size (drop size (x ∷ xs))

-- a list cut into parts of so many items, at least one
abbrev pub cut : {A : Type 0} → ℕ → List A → List (List A)
cut size xs = parts_within (length xs) size xs

-- a row of the table: each column's name beside the value that its cell is, from a place on
abbrev pub row_members : Bytes → ℕ → Fields → List Bytes → Members
row_members null i no_fields cells = no_members
row_members null i (field f t fs) cells = member f (cell_val null t (cell_at i cells)) (row_members null (i + 1) fs cells)

abbrev pub row_val : Bytes → Fields → List Bytes → Val
row_val null fs cells = struct_val (row_members null 0 fs cells)

-- the column of a type that the cells of rows are at a place
abbrev pub column_of : Bytes → ℕ → Ty → List (List Bytes) → Column
column_of null i t rows = column t (map (λ r. cell_val null t (cell_at i r)) rows)

-- the columns of a block of rows, from a place on
abbrev pub columns_from : Bytes → ℕ → List Ty → List (List Bytes) → List Column
columns_from null i [] rows = []
columns_from null i (t ∷ ts) rows = column_of null i t rows ∷ columns_from null (i + 1) ts rows

-- a table: its columns with the lengths of its blocks, and the columns of each block
pub record CsvTable : Type 0 where
  pub zones : Zones
  pub blocks : List (List Column)

-- the zones of a table in blocks of rows; it has no statistics
abbrev pub zones_of : Fields → List (List (List Bytes)) → Zones
zones_of fs blocks = record { columns = fs; lengths = map length blocks; stats = [] }

-- the table of blocks of rows
abbrev pub table_in : Bytes → Fields → List (List (List Bytes)) → CsvTable
table_in null fs blocks = record { zones = zones_of fs blocks; blocks = map (columns_from null 0 (field_types fs)) blocks }

-- the table of rows at these columns, in blocks of so many rows
abbrev pub table_with : Bytes → ℕ → Fields → List (List Bytes) → CsvTable
table_with null size fs rows = table_in null fs (cut size rows)

-- more rows than so many
abbrev pub number_refusal : ℕ → List (List Bytes) → Option Refusal
number_refusal most rows = cond (nat_le (length rows) most) None (Some (too_many_rows (length rows)))

-- the columns that are found of names and the rows behind them
abbrev pub found_columns : Bytes → List Bytes → List (List Bytes) → Fields
found_columns null names rows = zipped names (found_types null 0 names rows)

-- the names of a first line, where it and the rows behind it are a table's
abbrev pub names_in : List Bytes → List (List Bytes) → Result (List Bytes) Refusal
names_in names rows = unless_refused (form_refusal names rows) (Ok names)

-- the table of names and the rows behind them with types that are found: at most so many rows, in blocks of so many
abbrev pub found_behind : Bytes → ℕ → ℕ → List (List Bytes) → List Bytes → Result CsvTable Refusal
found_behind null size most rows names = unless_refused (number_refusal most rows) (Ok (table_with null size (found_columns null names rows) rows))

-- the table of records with types that are found
abbrev pub found_in : Bytes → ℕ → ℕ → List (List Bytes) → Result CsvTable Refusal
found_in null size most [] = Err no_header
found_in null size most (names ∷ rows) = names_in names rows >>= found_behind null size most rows

-- the table of a text with types that are found
abbrev pub found_table : Bytes → ℕ → ℕ → Bytes → Result CsvTable Refusal
found_table null size most text = records_of text >>= found_in null size most

-- the names aren't those of the columns
abbrev pub columns_refusal : Fields → List Bytes → Option Refusal
columns_refusal fs names = cond (names_eq names (field_names fs)) None (Some other_names)

-- the first column of no plain type, from a column on
abbrev pub plain_refusal : ℕ → List Ty → Option Refusal
plain_refusal column [] = None
plain_refusal column (t ∷ ts) = cond (is_plain t) (plain_refusal (column + 1) ts) (Some (not_plain column t))

-- why rows are no table at given columns: the names, the types, the first cell
abbrev pub given_refusal : Bytes → Fields → List Bytes → List (List Bytes) → Option Refusal
given_refusal null fs names rows =
    option_or (columns_refusal fs names) (option_or (plain_refusal 1 (field_types fs)) (values_refusal null (field_types fs) 1 rows))

-- the table of names and the rows behind them at given columns
abbrev pub typed_behind : Bytes → ℕ → ℕ → Fields → List (List Bytes) → List Bytes → Result CsvTable Refusal
typed_behind null size most fs rows names =
    unless_refused (number_refusal most rows) (unless_refused (given_refusal null fs names rows) (Ok (table_with null size fs rows)))

-- the table of records at given columns
abbrev pub typed_in : Bytes → ℕ → ℕ → Fields → List (List Bytes) → Result CsvTable Refusal
typed_in null size most fs [] = Err no_header
typed_in null size most fs (names ∷ rows) = names_in names rows >>= typed_behind null size most fs rows

-- the table of a text at given columns
abbrev pub typed_table : Bytes → ℕ → ℕ → Fields → Bytes → Result CsvTable Refusal
typed_table null size most fs text = records_of text >>= typed_in null size most fs

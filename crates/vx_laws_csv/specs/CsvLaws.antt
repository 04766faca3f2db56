-- What holds of cells, of types that are found, and of the tables of a CSV.
use Rattle.std.specs.Prelude.{◌≡◌, ◌↔◌, ℕ, suc, ◌+◌, ◌^◌, ◌<◌, nat_eq, nat_le, ℤ, pos, negsuc, Bool, true, false, ◌&&◌, List, [], ◌∷◌, map, take, length, slice_get, flat_map, Some, None}
use Rattle.std.specs.Fmt.{signed_decimal}
use Rattle.csv.specs.Reading.{AreRecords, default_config, records}
use Rattle.csv.specs.declared.parser.State.TheVariants as st
use Rattle.vx_dtype.specs.declared.Nullability.TheVariants.{Nullable}
use Rattle.vx_dtype.specs.Types.{Bytes, Ty, text_ty, Fields}
use Rattle.vx_dtype.specs.Fits.{fits}
use Rattle.vx_dtype.specs.Values.{Raw}
use Rattle.vx_tables.specs.Blocks.{have_lengths, have_types, table_of_blocks}
use Rattle.vx_laws_csv.specs.Cells.{whole_number, cell_raw, takes, cell_at}
use Rattle.vx_laws_csv.specs.FoundTypes.{all_null, all_taken, found_type, found_types, is_candidate, is_within}
use Rattle.vx_laws_csv.specs.Refusals.{Refusal, bad_cell}
use Rattle.vx_laws_csv.specs.CsvTables.{values_refusal, row_taken, rows_taken, cut, row_val, table_with}

-- a number of at most 64 bits, beside its sign
abbrev pub IsOf64Bits : ℤ → Type 0
IsOf64Bits (pos n) = n < 2 ^ 64
IsOf64Bits (negsuc n) = suc n < 2 ^ 64

-- a cell is a whole number exactly where it is the number's decimal text
abbrev pub NumbersAreTheirTexts : Type 0
NumbersAreTheirTexts = (s : Bytes) (i : ℤ) → (whole_number s ≡ Some i) ↔ ((s ≡ signed_decimal i) × IsOf64Bits i)

-- so `007`, `+5` and `-0` are none, whatever stands behind the first two characters
pub record OtherSpellings : Type 0 where
  pub zero_before : (b : ℕ) (s : Bytes) → whole_number (48 ∷ b ∷ s) ≡ None
  pub plus_before : (s : Bytes) → whole_number (43 ∷ s) ≡ None
  pub minus_before_zero : (s : Bytes) → whole_number (45 ∷ 48 ∷ s) ≡ None

-- what a cell is at a type is a value of the type
abbrev pub CellsAreOfTheirType : Type 0
CellsAreOfTheirType = (null : Bytes) (t : Ty) (s : Bytes) (x : Raw) → cell_raw null t s ≡ Some x → fits x t ≡ true

-- the type that is found of cells takes each of them
abbrev pub FoundTypesTakeAll : Type 0
FoundTypesTakeAll = (null : Bytes) (cells : List Bytes) → all_taken null (found_type null cells) cells ≡ true

-- and is within each candidate that takes them all, where they aren't all null
abbrev pub FoundTypesAreLeast : Type 0
FoundTypesAreLeast =
    (null : Bytes) (cells : List Bytes) (t : Ty)
    → all_null null cells ≡ false → is_candidate t ≡ true → all_taken null t cells ≡ true → is_within (found_type null cells) t ≡ true

-- cells that are all null are texts
abbrev pub NullsAreTexts : Type 0
NullsAreTexts = (null s : Bytes) (cells : List Bytes) → all_null null (s ∷ cells) ≡ true → found_type null (s ∷ cells) ≡ text_ty Nullable

-- with the types that are found of rows none of their cells is refused
abbrev pub NothingIsRefused : Type 0
NothingIsRefused = (null : Bytes) (names : List Bytes) (rows : List (List Bytes)) → values_refusal null (found_types null 0 names rows) 1 rows ≡ None

-- the first cell of rows that is no value of its column's type: its row and column, counted from 0, with the row's cells and the type
pub record IsFirstBad (null : Bytes) (ts : List Ty) (rows : List (List Bytes)) (r : Refusal) : Type 0 where
  pub row : ℕ
  pub column : ℕ
  pub cells : List Bytes
  pub ty : Ty
  pub told : r ≡ bad_cell (row + 1) (column + 1) (cell_at column cells) ty
  pub row_there : slice_get rows row ≡ Some cells
  pub type_there : slice_get ts column ≡ Some ty
  pub bad : takes null ty (cell_at column cells) ≡ false
  pub rows_before : rows_taken null ts (take row rows) ≡ true
  pub cells_before : row_taken null 0 (take column ts) cells ≡ true

-- the cell that is refused is the first bad one, and where none is refused each is a value of its column's type
abbrev pub RefusedCellsAreFirst : Type 0
RefusedCellsAreFirst = (null : Bytes) (ts : List Ty) (rows : List (List Bytes)) (r : Refusal) → values_refusal null ts 1 rows ≡ Some r → IsFirstBad null ts rows r

abbrev pub UnrefusedCellsAreTaken : Type 0
UnrefusedCellsAreTaken = (null : Bytes) (ts : List Ty) (rows : List (List Bytes)) → values_refusal null ts 1 rows ≡ None → rows_taken null ts rows ≡ true

-- the table has the columns, and its rows are what the cells are at their types, row by row, cut into blocks
pub record HoldsTheCells (null : Bytes) (size : ℕ) (fs : Fields) (rows : List (List Bytes)) : Type 0 where
  pub columns : (table_with null size fs rows).zones.columns ≡ fs
  pub blocks : (table_of_blocks (table_with null size fs rows).zones (table_with null size fs rows).blocks).blocks ≡ map (map (row_val null fs)) (cut size rows)

abbrev pub TablesHoldTheCells : Type 0
TablesHoldTheCells = (null : Bytes) (size : ℕ) (fs : Fields) (rows : List (List Bytes)) → HoldsTheCells null size fs rows

-- its blocks are as long and of the types as its zones say
pub record IsWhole (null : Bytes) (size : ℕ) (fs : Fields) (rows : List (List Bytes)) : Type 0 where
  pub lengths : have_lengths (table_with null size fs rows).zones (table_with null size fs rows).blocks ≡ true
  pub types : have_types (table_with null size fs rows).zones (table_with null size fs rows).blocks ≡ true

abbrev pub TablesAreWhole : Type 0
TablesAreWhole = (null : Bytes) (size : ℕ) (fs : Fields) (rows : List (List Bytes)) → IsWhole null size fs rows

-- whether each part but the last has so many items, and the last at least one and at most so many
abbrev pub are_full : {A : Type 0} → ℕ → List (List A) → Bool
are_full size [] = true
are_full size (p ∷ []) = nat_le 1 (length p) && nat_le (length p) size
are_full size (p ∷ q ∷ parts) = nat_eq (length p) size && are_full size (q ∷ parts)

-- cutting keeps the rows, each once and in order
abbrev pub CuttingKeepsRows : Type 0
CuttingKeepsRows = (size : ℕ) (rows : List (List Bytes)) → 0 < size → flat_map (λ part. part) (cut size rows) ≡ rows

-- into as few blocks as can be
abbrev pub PartsAreFull : Type 0
PartsAreFull = (size : ℕ) (rows : List (List Bytes)) → 0 < size → are_full size (cut size rows) ≡ true

-- records that take a text to its end one after the other are all its records
abbrev pub TheseAreAllRecords : Type 0
TheseAreAllRecords = (text : Bytes) (rows : List (List Bytes)) → AreRecords default_config st.StartRecord text rows → records default_config text ≡ rows

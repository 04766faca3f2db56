-- Laws of what is written.
use Rattle.std.specs.Prelude.{◌≡◌, ◌<◌, ℕ, List, ◌∷◌, map, Option, Some, None, unwrap_or, Ok}
use Rattle.vx_dtype.specs.Types.{Bytes, Fields}
use Rattle.vx_column.specs.Columns.{Column}
use Rattle.vx_semantics.specs.Honest.{IsHonest}
use Rattle.vx_semantics.specs.Tables.{Zones}
use Rattle.vx_tables.specs.Blocks.{table_of_blocks}
use Rattle.vx_request.specs.Tables.{ToldTable}
use Rattle.vx_laws_csv.specs.Sheets.{records_of}
use Rattle.vx_laws_csv.specs.CsvTables.{found_columns, row_val, table_with}
use Rattle.vx_laws_file.specs.FileForms.{FileContent}
use Rattle.vx_laws_file.specs.HeldTables.{held_table}
use Rattle.vx_laws_file.specs.Opening.{IsOpened}
use Rattle.vx_laws_shell.specs.ToldTables.{table_told}
use Rattle.vx_cutting.specs.Cutting.{zones_cut, blocks_anew}
use Rattle.vx_cutting.specs.CutLaws.{IsTable, all_rows}
use Rattle.vx_laws_shell.specs.CutAnew.{cut_anew}
use Rattle.vx_laws_writing.specs.WriteWords.{of_csv, WriteAsk}
use Rattle.vx_laws_writing.specs.Writing.{IsFileOf, rows_cut, rows_unnamed, table_asked, table_by, told_csv}

-- a number of rows that cuts: at least one, where one is named
abbrev pub Cuts : Option ℕ → Type 0
Cuts None = Unit {0}
Cuts (Some n) = 0 < n

-- what is written of a table is opened, has its columns, holds its rows in their order, and has statistics that don't lie
pub record IsWrittenWell (told : ToldTable) (bytes : Bytes) : Type 0 where
  pub content : FileContent
  pub opened : IsOpened bytes content
  pub columns : content.zones.columns ≡ told.zones.columns
  pub rows : all_rows (held_table content).blocks ≡ all_rows (table_told told).blocks
  pub honest : IsHonest content.zones (held_table content)

abbrev pub WhatIsWrittenIsTheTable : Type 0
WhatIsWrittenIsTheTable =
    (input : Bytes) (ask : WriteAsk) (told : ToldTable) (bytes : Bytes) → table_asked ask input ≡ Ok told → Cuts ask.rows → IsFileOf (rows_cut ask) told bytes
    → IsWrittenWell told bytes

-- what is written of a text of CSV is opened, has the columns, and holds in order what the cells of its rows are at their types
pub record IsWrittenText (null : Bytes) (columns : Fields) (rows : List (List Bytes)) (bytes : Bytes) : Type 0 where
  pub content : FileContent
  pub opened : IsOpened bytes content
  pub columns_are : content.zones.columns ≡ columns
  pub rows_are : all_rows (held_table content).blocks ≡ map (row_val null columns) rows

abbrev pub WhatIsWrittenIsTheText : Type 0
WhatIsWrittenIsTheText =
    (null : Bytes) (size : ℕ) (columns : Fields) (rows : List (List Bytes)) (bytes : Bytes) → 0 < size → IsFileOf None (told_csv (table_with null size columns rows)) bytes
    → IsWrittenText null columns rows bytes

-- and the table of a text of CSV is that of its columns, found or given, and of the records behind its first one
pub record IsTableOfText (null : Bytes) (given : Option Fields) (size : ℕ) (text : Bytes) (told : ToldTable) : Type 0 where
  pub names : List Bytes
  pub rows : List (List Bytes)
  pub records_are : records_of text ≡ Ok (names ∷ rows)
  pub told_is : told ≡ told_csv (table_with null size (unwrap_or given (found_columns null names rows)) rows)

abbrev pub TablesAreOfTheirTexts : Type 0
TablesAreOfTheirTexts =
    (most : ℕ) (null : Bytes) (given : Option Fields) (rows : Option ℕ) (text : Bytes) (told : ToldTable)
    → table_by most (of_csv null given) rows text ≡ Ok told
    → IsTableOfText null given (unwrap_or rows rows_unnamed) text told

-- the blocks of columns that a table is cut into are those of the table cut anew
abbrev pub BlocksCutAreCutAnew : Type 0
BlocksCutAreCutAnew =
    (n : ℕ) (zones : Zones) (blocks : List (List Column)) → 0 < n → IsTable zones blocks
    → table_of_blocks (zones_cut n zones) (blocks_anew n zones blocks) ≡ cut_anew n (table_of_blocks zones blocks)

-- What a run of the words of `write` is, over the standard input and the files that it can keep.
use Rattle.std.specs.Prelude.{◌≡◌, ◌⊎◌, ℕ, ◌<◌, ◌≤◌, ◌+◌, ◌-◌, ◌^◌, nat_le, Bool, true, false, cond, List, [], ◌∷◌, ◌++◌, map, length, replicate, codes, Option, Some, None, unwrap_or, Result, Ok, Err}
use Rattle.std.specs.Fmt.{decimal}
use Rattle.std.specs.List.{AllByRecursion}
use Rattle.vx_dtype.specs.Types.{Bytes, Fields}
use Rattle.vx_column.specs.Columns.{Column}
use Rattle.vx_semantics.specs.Tables.{Zones}
use Rattle.vx_io.specs.Counts.{one_more}
use Rattle.vx_io.specs.Ends.{TookPart}
use Rattle.vx_tables.specs.Blocks.{table_of_blocks}
use Rattle.vx_request.specs.Requests.{most_bytes}
use Rattle.vx_request.specs.Tables.{ToldTable, told_table}
use Rattle.vx_request.specs.declared.errors.RequestError.{RequestError}
use Rattle.vx_laws_stats.specs.BuiltStatistics.{built_zones}
use Rattle.vx_laws_csv.specs.Refusals.{Refusal}
use Rattle.vx_laws_csv.specs.CsvTables.{CsvTable, found_table, typed_table}
use Rattle.vx_laws_file.specs.FileForms.{file_bytes, most_rows}
use Rattle.vx_laws_file.specs.Lengths.{HasFile, IsShortTable}
use Rattle.vx_cutting.specs.Cutting.{zones_cut, blocks_anew}
use Rattle.vx_cutting.specs.Parting.{Parted, tables_in_parts}
use Rattle.vx_files.specs.Kept.{Kept, MayStand}
use Rattle.vx_files.specs.Keeping.{KeepsNothing, IsKept}
use Rattle.vx_files.specs.FolderKeeping.{NamedFile, IsFolderKept, MayStandIn, is_folder}
use Rattle.vx_laws_shell.specs.Running.{End, IsTaken}
use Rattle.vx_laws_writing.specs.WriteWords.{InputForm, of_json, of_csv, WriteAsk, write_asked_of}

-- why an input tells no table: it is no table as JSON; it is longer than an input may be; or no text of CSV of a table
pub data InputFault : Type 0 where
  no_json : RequestError → InputFault
  long_text : InputFault
  no_csv : Refusal → InputFault

-- how many rows a block of a text of CSV has, but the last, where none are named
abbrev pub rows_unnamed : ℕ
rows_unnamed = 65536

-- the table of a text of CSV, of at most so many rows
abbrev pub csv_table : ℕ → Bytes → Option Fields → ℕ → Bytes → Result CsvTable Refusal
csv_table most null None size text = found_table null size most text
csv_table most null (Some columns) size text = typed_table null size most columns text

-- the same as a told table, and why there is none
abbrev pub told_csv : CsvTable → ToldTable
told_csv table = record { zones = table.zones; blocks = table.blocks }

abbrev pub csv_told : Result CsvTable Refusal → Result ToldTable InputFault
csv_told (Ok table) = Ok (told_csv table)
csv_told (Err refusal) = Err (no_csv refusal)

abbrev pub json_told : Result ToldTable RequestError → Result ToldTable InputFault
json_told (Ok told) = Ok told
json_told (Err error) = Err (no_json error)

-- the table that an input tells by its form. That of a text of CSV has at most so many rows, in blocks of the rows that are named, and that of JSON its own blocks
abbrev pub table_by : ℕ → InputForm → Option ℕ → Bytes → Result ToldTable InputFault
table_by most of_json rows input = json_told (told_table input)
table_by most (of_csv null columns) rows input =
    cond (nat_le (length input) most_bytes) (csv_told (csv_table most null columns (unwrap_or rows rows_unnamed) input)) (Err long_text)

-- the most rows of the table of a text of CSV: as many as a file has, and in a folder of files as many as are counted
abbrev pub most_counted : ℕ
most_counted = 2 ^ 32 - 1

abbrev pub most_asked : Bytes → ℕ
most_asked path = cond (is_folder path) most_counted most_rows

abbrev pub table_asked : WriteAsk → Bytes → Result ToldTable InputFault
table_asked ask input = table_by (most_asked ask.path) ask.form ask.rows input

-- the rows of the blocks that the table is cut anew into: those that are named, where it isn't in such blocks
abbrev pub cut_by : InputForm → Option ℕ → Option ℕ
cut_by of_json rows = rows
cut_by (of_csv null columns) rows = None

abbrev pub rows_cut : WriteAsk → Option ℕ
rows_cut ask = cut_by ask.form ask.rows

-- the blocks of a told table that are kept: as they are, or cut anew; and their zones before statistics are built
abbrev pub blocks_kept : Option ℕ → ToldTable → List (List Column)
blocks_kept None told = told.blocks
blocks_kept (Some n) told = blocks_anew n told.zones told.blocks

abbrev pub zones_told : Option ℕ → ToldTable → Zones
zones_told None told = told.zones
zones_told (Some n) told = zones_cut n told.zones

-- the zones that are kept: with the statistics that the rows have, whatever the table's own were
abbrev pub zones_kept : Option ℕ → ToldTable → Zones
zones_kept rows told = built_zones (table_of_blocks (zones_told rows told) (blocks_kept rows told))

-- these are the bytes of the table's file
pub record IsFileOf (rows : Option ℕ) (told : ToldTable) (bytes : Bytes) : Type 0 where
  pub file : HasFile (zones_kept rows told) (blocks_kept rows told)
  pub bytes_are : bytes ≡ file_bytes (zones_kept rows told) (blocks_kept rows told)

-- something in the table is too long for a file
abbrev pub HasNoFile : Option ℕ → ToldTable → Type 0
HasNoFile rows told = ¬ (IsShortTable (zones_kept rows told) (blocks_kept rows told))

-- the tables that a table is kept as in a folder: each has as many of its blocks as it can within so many rows, in their order, and a file of its own
abbrev pub told_part : Parted → ToldTable
told_part part = record { zones = part.zones; blocks = part.blocks }

abbrev pub tables_kept : ℕ → Option ℕ → ToldTable → List ToldTable
tables_kept most rows told = map told_part (tables_in_parts most (zones_told rows told) (blocks_kept rows told))

-- these are the bytes of the files of tables
abbrev pub AreFilesOf : List ToldTable → List Bytes → Type 0
AreFilesOf [] [] = Unit {0}
AreFilesOf (told ∷ tables) (bytes ∷ files) = IsFileOf None told bytes × AreFilesOf tables files
AreFilesOf _ _ = ⊥

-- and these those of the files that a table is kept in, which has no more blocks than a table can have
pub record AreFilesOfParts (most : ℕ) (rows : Option ℕ) (told : ToldTable) (files : List Bytes) : Type 0 where
  pub few : length (blocks_kept rows told) < 2 ^ 32
  pub files_are : AreFilesOf (tables_kept most rows told) files

-- something in a table is too long for its files: there are too many blocks, or one of the files' tables has no file
abbrev pub HasItsFile : ToldTable → Type 0
HasItsFile told = IsShortTable (zones_kept None told) told.blocks

abbrev pub HasNoFiles : ℕ → Option ℕ → ToldTable → Type 0
HasNoFiles most rows told = (2 ^ 32 ≤ length (blocks_kept rows told)) ⊎ (¬ (AllByRecursion HasItsFile (tables_kept most rows told)))

-- the name of a file of a folder by its number, from 0 on: six digits or more, of which zeros stand before others, and `.vxb`
abbrev pub file_name : ℕ → Bytes
file_name number = replicate (6 - length (decimal number)) 48 ++ decimal number ++ codes ".vxb"

-- the files of these bytes, numbered
abbrev pub numbered_from : ℕ → List Bytes → List NamedFile
numbered_from number [] = []
numbered_from number (bytes ∷ files) = record { name = file_name number; bytes = bytes } ∷ numbered_from (number + 1) files

-- how a run ends: words of no form; a read that failed; an input that tells no table; a table that has no file; a path under which something stands already;
-- a file or a folder that couldn't be kept; or one that is
pub data WriteOutcome : Type 0 where
  misused : WriteOutcome
  unread : WriteOutcome
  untold : InputFault → WriteOutcome
  too_long : WriteOutcome
  standing : WriteOutcome
  unkept : WriteOutcome
  written : WriteOutcome

-- the exit status of an outcome
abbrev pub write_status : WriteOutcome → ℕ
write_status misused = 2
write_status unread = 6
write_status (untold e) = 3
write_status too_long = 3
write_status standing = 6
write_status unkept = 7
write_status written = 0

-- what paths lead to, and how many faults were counted of it
pub record FilesEnd : Type 0 where
  pub kept : Bytes → Kept
  pub faults : ℕ

-- the files of these meanings
abbrev pub files_end : {F : Type 0} → (F → Bytes → Kept) → (F → ℕ) → F → FilesEnd
files_end kept faults files = record { kept = kept files; faults = faults files }

-- nothing is kept anew, and no fault was counted
pub record AreUntouched (before after : FilesEnd) : Type 0 where
  pub kept : KeepsNothing before.kept after.kept
  pub quiet : after.faults ≡ before.faults

-- the words ask this of a table of the standard input, of which this was taken
pub record TakesInput (words : List Bytes) (before after : End) (ask : WriteAsk) (input : Bytes) : Type 0 where
  pub form : write_asked_of words ≡ Some ask
  pub taken : IsTaken before after input

-- and it tells this table
pub record TakesTold (words : List Bytes) (before after : End) (ask : WriteAsk) (told : ToldTable) : Type 0 where
  pub input : Bytes
  pub takes : TakesInput words before after ask input
  pub tells : table_asked ask input ≡ Ok told

-- something in a table is too long for what it is to be kept as: a file, or a folder of files
abbrev pub IsTooLong : Bool → Option ℕ → ToldTable → Type 0
IsTooLong false rows told = HasNoFile rows told
IsTooLong true rows told = HasNoFiles most_rows rows told

-- something may stand under a path already, which is a file's, or a folder's
abbrev pub StandsAt : Bool → Bytes → FilesEnd → Type 0
StandsAt false path files = MayStand (files.kept path)
StandsAt true path files = MayStandIn path files.kept

-- a table is kept as words ask: as a file under the path, or as numbered files in the folder of the path
abbrev pub IsKeptAs : Bool → WriteAsk → ToldTable → FilesEnd → FilesEnd → Type 0
IsKeptAs false ask told files now = (bytes : Bytes) × IsFileOf (rows_cut ask) told bytes × IsKept ask.path bytes ask.replaces files.kept now.kept
IsKeptAs true ask told files now =
    (kept : List Bytes) × AreFilesOfParts most_rows (rows_cut ask) told kept
    × IsFolderKept ask.path (numbered_from 0 kept) ask.replaces files.kept now.kept

-- what an outcome says of the words, the standard input and the files
abbrev pub IsWriteOutcome : List Bytes → End → End → FilesEnd → FilesEnd → WriteOutcome → Type 0
IsWriteOutcome words before after files now misused = (write_asked_of words ≡ None) × (after ≡ before) × AreUntouched files now
IsWriteOutcome words before after files now unread =
    (ask : WriteAsk) × (write_asked_of words ≡ Some ask) × TookPart (most_bytes + 1) before.bytes after.bytes × (one_more before.faults ≤ after.faults)
    × AreUntouched files now
IsWriteOutcome words before after files now (untold e) =
    (ask : WriteAsk) × (input : Bytes) × TakesInput words before after ask input × (table_asked ask input ≡ Err e) × AreUntouched files now
IsWriteOutcome words before after files now too_long =
    (ask : WriteAsk) × (told : ToldTable) × TakesTold words before after ask told × IsTooLong (is_folder ask.path) (rows_cut ask) told
    × AreUntouched files now
IsWriteOutcome words before after files now standing =
    (ask : WriteAsk) × (told : ToldTable) × TakesTold words before after ask told × (ask.replaces ≡ false) × StandsAt (is_folder ask.path) ask.path files
    × AreUntouched files now
IsWriteOutcome words before after files now unkept =
    (ask : WriteAsk) × (told : ToldTable) × TakesTold words before after ask told × KeepsNothing files.kept now.kept
    × (one_more files.faults ≤ now.faults)
IsWriteOutcome words before after files now written =
    (ask : WriteAsk) × (told : ToldTable) × TakesTold words before after ask told × IsKeptAs (is_folder ask.path) ask told files now
    × (now.faults ≡ files.faults)

-- a run that came to its end, with its exit status
pub record IsEndedWrite (words : List Bytes) (before after : End) (files now : FilesEnd) (status : ℕ) : Type 0 where
  pub outcome : WriteOutcome
  pub is : IsWriteOutcome words before after files now outcome
  pub told : status ≡ write_status outcome

-- a run without memory: a first part of the input was taken, and nothing is kept anew
pub record IsEndedWithoutMemory (before after : End) (files now : FilesEnd) (status : ℕ) : Type 0 where
  pub told : status ≡ 8
  pub part : TookPart (most_bytes + 1) before.bytes after.bytes
  pub untouched : AreUntouched files now

-- a run of the words of `write`. What is written to the errors isn't told
abbrev pub IsWriteRun : List Bytes → End → End → FilesEnd → FilesEnd → ℕ → Type 0
IsWriteRun words before after files now status = IsEndedWrite words before after files now status ⊎ IsEndedWithoutMemory before after files now status

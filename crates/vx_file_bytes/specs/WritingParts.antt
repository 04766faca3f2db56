-- For the checker: no public clause cites this.
-- The parts of a file as they are written, and when each is short.
use Rattle.std.specs.Prelude.{List, ◌++◌, length}
use Rattle.std.specs.List.{AllByRecursion, flat_map}
use Rattle.vx_dtype.specs.Types.{Bytes}
use Rattle.vx_column.specs.Columns.{Column}
use Rattle.vx_semantics.specs.Tables.{Zones, row_type}
use Rattle.vx_wire_bytes.specs.Numbers.{number_bytes, piece_bytes}
use Rattle.vx_wire_bytes.specs.Fields.{IsShort}
use Rattle.vx_wire_bytes.specs.TypeForms.{type_bytes, NamesAre}
use Rattle.vx_laws_file.specs.FileForms.{AreCounted, counted_bytes, statistic_bytes, column_bytes, mark}
use Rattle.vx_laws_file.specs.Lengths.{StatisticTextsAre, ColumnTextsAre}
use Rattle.vx_file_bytes.specs.declared.errors.WriteFileError.{WriteFileError}
use Rattle.vx_file_bytes.specs.declared.errors.WriteFileError.TheVariants.{NoMemory, WrongLength, WrongType, TooLong}

-- why a part isn't written: it isn't short; want of memory has no cause in it, and the others never come
abbrev pub IsTooLong : Type 0 → WriteFileError → Type 0
IsTooLong Short NoMemory = Unit {0}
IsTooLong Short TooLong = ¬ Short
IsTooLong Short WrongLength = ⊥
IsTooLong Short WrongType = ⊥

-- each text of a column is as given, and its range is short
abbrev pub ColumnIs : (Bytes → Type 0) → Column → Type 0
ColumnIs Given c = ColumnTextsAre Given c × IsShort (column_bytes c)

-- the same of each column of a block
abbrev pub BlockIs : (Bytes → Type 0) → List Column → Type 0
BlockIs Given cs = AllByRecursion (ColumnIs Given) cs

-- the number of bytes in the range of a column, as a header has it
abbrev pub column_number : Column → Bytes
column_number c = number_bytes (length (column_bytes c))

-- the ranges of a block, and how long each is
abbrev pub block_bytes : List Column → Bytes
block_bytes cs = flat_map column_bytes cs

abbrev pub block_numbers : List Column → Bytes
block_numbers cs = flat_map column_number cs

-- each text in columns and statistics is as given, and each number of them has a spelling
abbrev pub ZonesTextsAre : (Bytes → Type 0) → Zones → Type 0
ZonesTextsAre Given zones = NamesAre Given (row_type zones.columns) × AreCounted (StatisticTextsAre Given) zones.stats

-- the bytes of a header before the lengths of the ranges
abbrev pub header_front : Zones → Bytes
header_front zones = type_bytes (row_type zones.columns) ++ (counted_bytes number_bytes zones.lengths ++ counted_bytes statistic_bytes zones.stats)

-- a file of this header and these ranges
abbrev pub joined_bytes : Bytes → Bytes → Bytes
joined_bytes header ranges = (mark ++ piece_bytes header) ++ ranges

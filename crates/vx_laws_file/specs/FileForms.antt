-- The bytes of a block file: a mark; a header with the columns of a table, the number of rows of each block, the statistics, and how long each range is;
-- then the ranges, one for each column of each block, which hold the columns' values.
use Rattle.std.specs.Prelude.{◌≡◌, ℕ, ◌≤◌, true, List, ◌∷◌, ◌++◌, map, length, sum, codes}
use Rattle.std.specs.List.{AllByRecursion, flat_map, concat}
use Rattle.vx_dtype.specs.declared.Stat.{Stat}
use Rattle.vx_dtype.specs.declared.Stat.TheVariants.{Min, Max, NaNCount, NullCount}
use Rattle.vx_dtype.specs.Types.{Bytes, Fields}
use Rattle.vx_dtype.specs.TypeRules.{field_names}
use Rattle.vx_dtype.specs.Values.{Typed}
use Rattle.vx_column.specs.Columns.{Column}
use Rattle.vx_semantics.specs.Tables.{ZoneStat, Zones, row_type}
use Rattle.vx_wire_bytes.specs.Numbers.{number_bytes, piece_bytes}
use Rattle.vx_wire_bytes.specs.Fields.{IsNumber, IsText}
use Rattle.vx_wire_bytes.specs.TypeForms.{type_bytes, HasNames}
use Rattle.vx_wire_bytes.specs.ValueForms.{value_bytes, IsValue}
use Rattle.vx_zones.specs.Zoning.{are_shallow, counts_blocks, has_its_type}
use Rattle.vx_laws_file.specs.Cells.{range_bytes}

-- the first bytes of each file
abbrev pub mark : Bytes
mark = codes "VXBLK001"

-- the most rows that all blocks of a file have together
abbrev pub most_rows : ℕ
most_rows = 1048576

-- how many items there are, and the bytes of each
abbrev pub counted_bytes : {A : Type 0} → (A → Bytes) → List A → Bytes
counted_bytes spelling xs = number_bytes (length xs) ++ flat_map spelling xs

-- items that have a spelling so: their number has one, and each of them
abbrev pub AreCounted : {A : Type 0} → (A → Type 0) → List A → Type 0
AreCounted HasSpelling xs = IsNumber (length xs) × AllByRecursion HasSpelling xs

-- the byte of a kind of statistic. No header has the last: there is no such count
abbrev pub stat_byte : Stat → ℕ
stat_byte Min = 0
stat_byte Max = 1
stat_byte NullCount = 2
stat_byte NaNCount = 3

-- the bytes of a value of a statistic
abbrev pub scalar_bytes : Typed → Bytes
scalar_bytes s = value_bytes s.ty s.value

-- the bytes of a statistic: its path, the byte of its kind, and its value in each block
abbrev pub statistic_bytes : ZoneStat → Bytes
statistic_bytes z = counted_bytes piece_bytes z.path ++ (stat_byte z.stat ∷ flat_map scalar_bytes z.values)

-- a statistic that has a spelling in a table with these columns and these lengths of blocks: its path leads to a plain field, the first one of each name;
-- and it has one value per block, of the statistic's type made nullable
pub record IsStatistic (columns : Fields) (lengths : List ℕ) (z : ZoneStat) : Type 0 where
  pub path : AreCounted IsText z.path
  pub counted : counts_blocks lengths z ≡ true
  pub typed : has_its_type columns z ≡ true
  pub values : AllByRecursion (λ s. IsValue s.ty s.value) z.values

-- what a header holds: the columns, lengths and statistics of a table, and block by block how long the range of each column is
pub record Header : Type 0 where
  pub zones : Zones
  pub range_lengths : List (List ℕ)

-- the bytes of how long the ranges of a block are
abbrev pub lengths_bytes : List ℕ → Bytes
lengths_bytes ns = flat_map number_bytes ns

-- the bytes of a header: the type of the rows, which is that of a struct of the columns; how many rows each block has; the statistics; the ranges' lengths
abbrev pub header_bytes : Header → Bytes
header_bytes h =
    type_bytes (row_type h.zones.columns)
    ++ (counted_bytes number_bytes h.zones.lengths ++ (counted_bytes statistic_bytes h.zones.stats ++ flat_map lengths_bytes h.range_lengths))

-- the lengths of the ranges of a block of so many columns, each of which has a spelling
abbrev pub AreRangeLengths : ℕ → List ℕ → Type 0
AreRangeLengths width ns = (length ns ≡ width) × AllByRecursion IsNumber ns

-- a header that has a spelling: names and numbers have spellings, no column's type is deeper than 64, there are no more rows than a file may have, and
-- each column of each block has a range. Two fields may have one name, and two statistics one path and kind: these are rules of the zones alone
pub record IsHeader (h : Header) : Type 0 where
  pub names : HasNames (row_type h.zones.columns)
  pub shallow : are_shallow h.zones.columns ≡ true
  pub number_of_blocks : IsNumber (length h.zones.lengths)
  pub rows : sum h.zones.lengths ≤ most_rows
  pub statistics : AreCounted (IsStatistic h.zones.columns h.zones.lengths) h.zones.stats
  pub each_block : length h.range_lengths ≡ length h.zones.lengths
  pub each_range : AllByRecursion (AreRangeLengths (length (field_names h.zones.columns))) h.range_lengths

-- the bytes before the ranges: the mark, and the header behind its length
abbrev pub front_bytes : Header → Bytes
front_bytes h = mark ++ piece_bytes (header_bytes h)

-- what a block file holds: the columns, lengths and statistics of a table, and block by block the range of each column
pub record FileContent : Type 0 where
  pub zones : Zones
  pub ranges : List (List Bytes)

-- how long the ranges of a block are
abbrev pub lengths_of : List Bytes → List ℕ
lengths_of ranges = map length ranges

-- the header of a file that holds this
abbrev pub header_of : FileContent → Header
header_of content = record { zones = content.zones; range_lengths = map lengths_of content.ranges }

-- the ranges of all blocks, one after the other
abbrev pub ranges_bytes : List (List Bytes) → Bytes
ranges_bytes ranges = flat_map concat ranges

-- the bytes of a file that holds this
abbrev pub content_bytes : FileContent → Bytes
content_bytes content = front_bytes (header_of content) ++ ranges_bytes content.ranges

-- the range of a column of a block
abbrev pub column_bytes : Column → Bytes
column_bytes c = range_bytes c.ty c.rows

-- what the file of a table holds, whose blocks are these columns
abbrev pub content_of : Zones → List (List Column) → FileContent
content_of zones blocks = record { zones = zones; ranges = map (λ cs. map column_bytes cs) blocks }

-- the bytes of the file of a table, whose blocks are these columns
abbrev pub file_bytes : Zones → List (List Column) → Bytes
file_bytes zones blocks = content_bytes (content_of zones blocks)

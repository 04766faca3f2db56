-- Which tables have a file: nothing in them is too long.
use Rattle.std.specs.Prelude.{◌≡◌, ◌≤◌, true, List, length, sum, None}
use Rattle.std.specs.List.{AllByRecursion, list_all}
use Rattle.vx_dtype.specs.Types.{Bytes}
use Rattle.vx_column.specs.Columns.{Column}
use Rattle.vx_semantics.specs.Tables.{ZoneStat, Zones, row_type}
use Rattle.vx_wire_bytes.specs.Fields.{IsNumber, IsShort, IsText}
use Rattle.vx_wire_bytes.specs.TypeForms.{NamesAre}
use Rattle.vx_wire_bytes.specs.ValueForms.{TextsAre}
use Rattle.vx_zones.specs.Zoning.{broken_rule, values_fit}
use Rattle.vx_tables.specs.Blocks.{block_fits, table_refusal}
use Rattle.vx_laws_file.specs.Cells.{raw_value}
use Rattle.vx_laws_file.specs.FileForms.{AreCounted, most_rows, header_bytes, header_of, content_of}

-- each name in the path of a statistic and each text in its values is as given, and each number of them has a spelling
abbrev pub StatisticTextsAre : (Bytes → Type 0) → ZoneStat → Type 0
StatisticTextsAre Given z = AreCounted Given z.path × AllByRecursion (λ s. TextsAre Given s.value) z.values

-- each text in the values of a column is as given, and each number of elements has a spelling
abbrev pub ColumnTextsAre : (Bytes → Type 0) → Column → Type 0
ColumnTextsAre Given c = AllByRecursion (λ v. TextsAre Given (raw_value v)) c.rows

-- each name and each text of a table is as given, and nothing is too long for its file: no list, no range and no header has 2 ^ 32 or more, and the blocks
-- have no more rows together than a file may have
pub record HasParts (Given : Bytes → Type 0) (zones : Zones) (blocks : List (List Column)) : Type 0 where
  pub names : NamesAre Given (row_type zones.columns)
  pub number_of_blocks : IsNumber (length zones.lengths)
  pub statistics : AreCounted (StatisticTextsAre Given) zones.stats
  pub values : AllByRecursion (λ cs. AllByRecursion (ColumnTextsAre Given) cs) blocks
  pub rows : sum zones.lengths ≤ most_rows
  pub ranges : AllByRecursion (λ rs. AllByRecursion IsShort rs) (content_of zones blocks).ranges
  pub header : IsShort (header_bytes (header_of (content_of zones blocks)))

-- nothing in a table is too long for its file
abbrev pub IsShortTable : Zones → List (List Column) → Type 0
IsShortTable zones blocks = HasParts IsShort zones blocks

-- a table that has a file: its statistics break no rule, its blocks are a table with them, each value is one of its type, each text is UTF-8, and nothing
-- is too long
pub record HasFile (zones : Zones) (blocks : List (List Column)) : Type 0 where
  pub rules : broken_rule zones ≡ None
  pub statistics_fit : values_fit zones ≡ true
  pub table : table_refusal zones blocks ≡ None
  pub cells_fit : list_all block_fits blocks ≡ true
  pub parts : HasParts IsText zones blocks

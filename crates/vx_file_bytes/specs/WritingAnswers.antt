-- Why no file is written.
use Rattle.std.specs.Prelude.{◌≡◌, List, Some, None}
use Rattle.vx_column.specs.Columns.{Column}
use Rattle.vx_semantics.specs.Tables.{Zones}
use Rattle.vx_tables.specs.Blocks.{table_refusal}
use Rattle.vx_tables.specs.declared.errors.TableError.TheVariants as refusals
use Rattle.vx_laws_file.specs.Lengths.{IsShortTable}
use Rattle.vx_file_bytes.specs.declared.errors.WriteFileError.{WriteFileError}
use Rattle.vx_file_bytes.specs.declared.errors.WriteFileError.TheVariants.{NoMemory, WrongLength, WrongType, TooLong}

-- why a table isn't written: its blocks are no table with these zones, or else something in it is too long for a file; want of memory has no cause in it
abbrev pub IsUnwritten : Zones → List (List Column) → WriteFileError → Type 0
IsUnwritten zones blocks NoMemory = Unit {0}
IsUnwritten zones blocks WrongLength = table_refusal zones blocks ≡ Some refusals.WrongLength
IsUnwritten zones blocks WrongType = table_refusal zones blocks ≡ Some refusals.WrongType
IsUnwritten zones blocks TooLong = (table_refusal zones blocks ≡ None) × ¬ (IsShortTable zones blocks)

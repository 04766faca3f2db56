-- The rows of a table that a text of JSON tells.
use Rattle.std.specs.Prelude.{◌≡◌, None, Ok}
use Rattle.vx_dtype.specs.Types.{Bytes}
use Rattle.vx_semantics.specs.Tables.{Table}
use Rattle.vx_tables.specs.Blocks.{table_of_blocks, table_refusal}
use Rattle.vx_request.specs.Tables.{ToldTable, told_table}

-- the rows of a told table
abbrev pub table_told : ToldTable → Table
table_told told = table_of_blocks told.zones told.blocks

-- the blocks of a told table are a table with its zones
abbrev pub ToldTablesAreTables : Type 0
ToldTablesAreTables = (input : Bytes) (told : ToldTable) → told_table input ≡ Ok told → table_refusal told.zones told.blocks ≡ None

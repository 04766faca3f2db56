-- What is made of a told table.
use Rattle.std.specs.Prelude.{◌≡◌, ℕ, ◌<◌, ◌≤◌, ◌^◌, List, map, length, Option, None, Result, Ok, Err}
use Rattle.std.specs.List.{AllByRecursion}
use Rattle.std.specs.declared.vec.Vec.{Vec}
use Rattle.std.specs.declared.alloc.Global.{Global}
use Rattle.vx_dtype.specs.Types.{Bytes}
use Rattle.vx_tables.specs.Blocks.{table_refusal}
use Rattle.vx_request.specs.RequestViews.{told_view}
use Rattle.vx_request.specs.Tables.{ToldTable}
use Rattle.vx_request.specs.declared.tables.ToldTable.{ToldTable as ToldCode}
use Rattle.vx_laws_writing.specs.Writing.{AreFilesOf, AreFilesOfParts, HasItsFile, HasNoFile, HasNoFiles, IsFileOf, blocks_kept, tables_kept, zones_told}
use Rattle.vx_writing.specs.declared.errors.Refusal.{Refusal}
use Rattle.vx_writing.specs.declared.errors.Refusal.TheVariants.{NoMemory, TooLong}

-- these are the blocks that are kept of a table, and their zones before statistics are built
pub record AreBlocksOf (rows : Option ℕ) (told made : ToldTable) : Type 0 where
  pub zones : made.zones ≡ zones_told rows told
  pub blocks : made.blocks ≡ blocks_kept rows told
  pub table : table_refusal made.zones made.blocks ≡ None

-- they are made, or there are too many of them, for a file too
abbrev pub MakesBlocks : Option ℕ → ToldTable → Result ToldCode Refusal → Type 0
MakesBlocks rows told (Ok made) = AreBlocksOf rows told (told_view made)
MakesBlocks rows told (Err NoMemory) = Unit {0}
MakesBlocks rows told (Err TooLong) = HasNoFile rows told × (2 ^ 32 ≤ length (blocks_kept rows told))
MakesBlocks rows told (Err _) = ⊥

-- the file of a table is made, or something in it is too long for one
abbrev pub MakesFile : Option ℕ → ToldTable → Result (Vec ℕ Global) Refusal → Type 0
MakesFile rows told (Ok bytes) = IsFileOf rows told bytes.items
MakesFile rows told (Err NoMemory) = Unit {0}
MakesFile rows told (Err TooLong) = HasNoFile rows told
MakesFile rows told (Err _) = ⊥

-- the bytes of a vector
abbrev pub bytes_at : Vec ℕ Global → Bytes
bytes_at bytes = bytes.items

-- told tables whose blocks are a table with their zones
abbrev pub AreTables : List ToldTable → Type 0
AreTables tables = AllByRecursion (λ table. table_refusal table.zones table.blocks ≡ None) tables

-- the tables of the files of a table
pub record ArePartsOf (most : ℕ) (rows : Option ℕ) (told : ToldTable) (tables : List ToldTable) : Type 0 where
  pub tables_are : tables ≡ tables_kept most rows told
  pub few : length (blocks_kept rows told) < 2 ^ 32
  pub whole : AreTables tables

-- they are made, or the table has too many blocks
abbrev pub MakesParts : ℕ → Option ℕ → ToldTable → Result (Vec ToldCode Global) Refusal → Type 0
MakesParts most rows told (Ok made) = ArePartsOf most rows told (map told_view made.items)
MakesParts most rows told (Err NoMemory) = Unit {0}
MakesParts most rows told (Err TooLong) = 2 ^ 32 ≤ length (blocks_kept rows told)
MakesParts most rows told (Err _) = ⊥

-- the file of each of tables is made, or something in one of them is too long for one
abbrev pub MakesFiles : List ToldTable → Result (Vec (Vec ℕ Global) Global) Refusal → Type 0
MakesFiles tables (Ok files) = AreFilesOf tables (map bytes_at files.items)
MakesFiles tables (Err NoMemory) = Unit {0}
MakesFiles tables (Err TooLong) = ¬ (AllByRecursion HasItsFile tables)
MakesFiles tables (Err _) = ⊥

-- the files of the parts of a table are made, or something in it is too long for them
abbrev pub KeepsParts : ℕ → Option ℕ → ToldTable → Result (Vec (Vec ℕ Global) Global) Refusal → Type 0
KeepsParts most rows told (Ok files) = AreFilesOfParts most rows told (map bytes_at files.items)
KeepsParts most rows told (Err NoMemory) = Unit {0}
KeepsParts most rows told (Err TooLong) = HasNoFiles most rows told
KeepsParts most rows told (Err _) = ⊥

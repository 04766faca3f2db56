-- The blocks of a table put into parts, in their order: each part has as many as it can within so many rows.
use Rattle.std.specs.Prelude.{◌≡◌, ℕ, ◌+◌, ◌<◌, nat_le, cond, List, [], ◌∷◌, ◌++◌, map, length}
use Rattle.std.specs.List.{AllByRecursion, flat_map, sum}
use Rattle.vx_column.specs.Columns.{Column}
use Rattle.vx_semantics.specs.Tables.{Zones}
use Rattle.vx_tables.specs.Blocks.{block_view}
use Rattle.vx_cutting.specs.CutLaws.{IsTable}
use Rattle.vx_cutting.specs.Cutting.{bare_zones}
use Rattle.vx_cutting.specs.declared.cutting.CutTable.{CutTable}

-- a part of the blocks of a table: how many rows each has, and its columns
pub record Part : Type 0 where
  pub lengths : List ℕ
  pub blocks : List (List Column)

-- no block, and one more behind those of a part
abbrev pub no_block : Part
no_block = record { lengths = []; blocks = [] }

abbrev pub and_block : Part → ℕ → List Column → Part
and_block part n block = record { lengths = part.lengths ++ n ∷ []; blocks = part.blocks ++ block ∷ [] }

-- blocks of these lengths behind those of a part: each stands in the part before it where that has at most so many rows with it, and else begins one
unfoldable pub parts_behind : ℕ → Part → List ℕ → List (List Column) → List Part
parts_behind most part [] blocks = part ∷ []
parts_behind most part (n ∷ lengths) [] = part ∷ []
parts_behind most part (n ∷ lengths) (block ∷ blocks) =
    cond (nat_le (sum part.lengths + n) most) (parts_behind most (and_block part n block) lengths blocks)
    (part ∷ parts_behind most (and_block no_block n block) lengths blocks)

-- a table: its zones, and the columns of its blocks
pub record Parted : Type 0 where
  pub zones : Zones
  pub blocks : List (List Column)

abbrev pub parted_view : CutTable → Parted
parted_view cut = record { zones = cut.zones; blocks = map block_view cut.blocks.items }

-- the table of a part, whose zones have no statistics
abbrev pub table_of_part : Zones → Part → Parted
table_of_part zones part = record { zones = bare_zones zones part.lengths; blocks = part.blocks }

-- the tables that a table's blocks are put into
abbrev pub tables_in_parts : ℕ → Zones → List (List Column) → List Parted
tables_in_parts most zones blocks = map (table_of_part zones) (parts_behind most no_block zones.lengths blocks)

-- a block put behind a part, of which tables of parts stood before: what is made of the blocks behind it is the same
abbrev pub Puts : ℕ → Zones → List Parted → Part → ℕ → List Column → List Parted → Part → Type 0
Puts most zones whole part n block whole_now now =
    (ns : List ℕ) (blocks : List (List Column))
    → whole ++ map (table_of_part zones) (parts_behind most part (n ∷ ns) (block ∷ blocks))
    ≡ whole_now ++ map (table_of_part zones) (parts_behind most now ns blocks)

-- ---- laws

-- the tables have the columns of the table, and its blocks, one table's behind another's; each is a table with its zones; and there is one at least
pub record ArePartsOf (zones : Zones) (blocks : List (List Column)) (parts : List Parted) : Type 0 where
  pub columns : AllByRecursion (λ part. part.zones.columns ≡ zones.columns) parts
  pub lengths : flat_map (λ part. part.zones.lengths) parts ≡ zones.lengths
  pub blocks_are : flat_map (λ part. part.blocks) parts ≡ blocks
  pub tables : AllByRecursion (λ part. IsTable part.zones part.blocks) parts
  pub some : 0 < length parts

abbrev pub PartsAreTheTable : Type 0
PartsAreTheTable =
    (most : ℕ) (zones : Zones) (blocks : List (List Column)) → IsTable zones blocks → ArePartsOf zones blocks (tables_in_parts most zones blocks)

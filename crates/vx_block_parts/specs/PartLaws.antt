-- What is known of a store from what is seen of a part of it.
use Rattle.std.specs.Prelude.{◌≡◌, ℕ, ◌-◌, ◌≤◌, List, ◌++◌, map, length, None, option_map}
use Rattle.vx_expr.specs.Trees.{Tree}
use Rattle.vx_semantics.specs.Meaning.{Slots}
use Rattle.vx_semantics.specs.Tables.{Table, Zones}
use Rattle.vx_semantics.specs.Honest.{IsHonest}
use Rattle.vx_semantics.specs.Scans.{kept_rows_of}
use Rattle.vx_scan.specs.Stores.{Read, StoreSeen}
use Rattle.vx_scan.specs.Cutting.{first_zones, later_zones, first_blocks, later_blocks}
use Rattle.vx_block_parts.specs.Parts.{zones_between, table_between, read_behind, seen_between}
use Rattle.vx_block_parts.specs.PartMoves.{MovesBetween}

-- the reads that a part shows as made behind others are those that its store made, so many blocks further on
abbrev pub PartsReadTheirBlocks : Type 0
PartsReadTheirBlocks =
    (from up_to : ℕ) (before after : StoreSeen) (made : List Read) → MovesBetween from up_to before after
    → (seen_between from up_to after).log ≡ (seen_between from up_to before).log ++ made → after.log ≡ before.log ++ map (read_behind from) made

-- where no read of the store had failed, the last that failed is the one that the part shows, so many blocks further on
abbrev pub PartsFailAtTheirBlocks : Type 0
PartsFailAtTheirBlocks =
    (from up_to : ℕ) (before after : StoreSeen) → MovesBetween from up_to before after → before.failed ≡ None
    → after.failed ≡ option_map (read_behind from) (seen_between from up_to after).failed

-- statistics that are honest for a table are so for some of its blocks, one behind another
abbrev pub HonestPartsAreHonest : Type 0
HonestPartsAreHonest =
    (from up_to : ℕ) (zones : Zones) (table : Table) → IsHonest zones table → IsHonest (zones_between from up_to zones) (table_between from up_to table)

-- a part that is cut in two at a block is two parts
pub record IsCutAt (from middle up_to : ℕ) (zones : Zones) (table : Table) : Type 0 where
  pub zones_before : first_zones (middle - from) (zones_between from up_to zones) ≡ zones_between from middle zones
  pub zones_behind : later_zones (middle - from) (zones_between from up_to zones) ≡ zones_between middle up_to zones
  pub table_before : first_blocks (middle - from) (table_between from up_to table) ≡ table_between from middle table
  pub table_behind : later_blocks (middle - from) (table_between from up_to table) ≡ table_between middle up_to table

abbrev pub PartsAreCut : Type 0
PartsAreCut = (from middle up_to : ℕ) (zones : Zones) (table : Table) → from ≤ middle → middle ≤ up_to → IsCutAt from middle up_to zones table

-- the rows that a scan gives of the blocks up to a middle one, and then those that it gives of the blocks from there on, are those that it gives of all of them
abbrev pub PartsJoin : Type 0
PartsJoin =
    (table : Table) (zones : Zones) (slots : Slots) (f p : Tree) (from middle up_to : ℕ) → length table.blocks ≡ length zones.lengths
    → from ≤ middle → middle ≤ up_to → up_to ≤ length zones.lengths
    → kept_rows_of (table_between from up_to table) (zones_between from up_to zones) slots f p
    ≡ kept_rows_of (table_between from middle table) (zones_between from middle zones) slots f p
    ++ kept_rows_of (table_between middle up_to table) (zones_between middle up_to zones) slots f p

-- For the checker: no public clause cites this. Parts that are begun, as they are seen.
use Rattle.std.specs.Prelude.{◌≡◌, ℕ, ◌<◌, ◌^◌, map}
use Rattle.std.specs.List.{sum}
use Rattle.vx_tables.specs.Blocks.{block_view}
use Rattle.vx_cutting.specs.Parting.{Part}
use Rattle.vx_cutting.specs.declared.parting.Part.{Part as PartCode}

abbrev pub part_view : PartCode → Part
part_view part = record { lengths = part.lengths.items; blocks = map block_view part.blocks.items }

-- a part with these blocks, and so many rows
pub record HasBlocks (rows : ℕ) (blocks : Part) (part : PartCode) : Type 0 where
  pub blocks_are : part_view part ≡ blocks
  pub rows_are : part.rows ≡ rows

-- a part that counts its rows, of which there are fewer than 2 ^ 32
pub record IsOpen (part : PartCode) : Type 0 where
  pub counted : part.rows ≡ sum part.lengths.items
  pub few : part.rows < 2 ^ 32

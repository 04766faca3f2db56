-- Laws of tables that are cut anew.
use Rattle.std.specs.Prelude.{◌≡◌, ◌<◌, ℕ, true, List}
use Rattle.std.specs.List.{flat_map}
use Rattle.vx_dtype.specs.Values.{Val}
use Rattle.vx_column.specs.Columns.{Column}
use Rattle.vx_semantics.specs.Tables.{Zones}
use Rattle.vx_tables.specs.Blocks.{have_lengths, have_types, table_of_blocks}
use Rattle.vx_cutting.specs.Cutting.{zones_cut, blocks_anew}

-- the blocks of a table that is cut have the lengths and the types that its zones say
pub record IsTable (zones : Zones) (blocks : List (List Column)) : Type 0 where
  pub lengths : have_lengths zones blocks ≡ true
  pub types : have_types zones blocks ≡ true

abbrev pub CutTablesAreTables : Type 0
CutTablesAreTables = (n : ℕ) (zones : Zones) (blocks : List (List Column)) → 0 < n → IsTable zones blocks → IsTable (zones_cut n zones) (blocks_anew n zones blocks)

-- the rows of all blocks, one block's behind another's
abbrev pub all_rows : List (List Val) → List Val
all_rows blocks = flat_map (λ rows. rows) blocks

-- its rows are the same, in the same order
abbrev pub CuttingKeepsRows : Type 0
CuttingKeepsRows =
    (n : ℕ) (zones : Zones) (blocks : List (List Column)) → 0 < n → IsTable zones blocks
    → all_rows (table_of_blocks (zones_cut n zones) (blocks_anew n zones blocks)).blocks ≡ all_rows (table_of_blocks zones blocks).blocks

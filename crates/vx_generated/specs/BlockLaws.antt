-- That the blocks of columns are the table.
use Rattle.std.specs.Prelude.{◌≡◌, ℕ, None}
use Rattle.vx_tables.specs.Blocks.{table_of_blocks, table_refusal}
use Rattle.vx_laws_generated.specs.GeneratedTable.{generated_table, generated_zones}
use Rattle.vx_generated.specs.GeneratedBlocks.{generated_blocks}

-- the blocks agree with the statistics, and are the generated table
pub record AreTheTable (rows : ℕ) : Type 0 where
  pub agree : table_refusal (generated_zones rows) (generated_blocks rows) ≡ None
  pub table : table_of_blocks (generated_zones rows) (generated_blocks rows) ≡ generated_table rows

abbrev pub GeneratedBlocksAreTheTable : Type 0
GeneratedBlocksAreTheTable = (rows : ℕ) → AreTheTable rows

-- The blocks of the generated table as columns, and the store that holds them.
use Rattle.std.specs.Prelude.{ℕ, true, List, [], ◌∷◌, map, Some, None}
use Rattle.vx_dtype.specs.Types.{int_ty}
use Rattle.vx_semantics.specs.Scans.{reads_of}
use Rattle.vx_column.specs.Columns.{Column, column}
use Rattle.vx_scan.specs.Stores.{Read, StoreSeen}
use Rattle.vx_laws_generated.specs.GeneratedTable.{GeneratedColumn, id_column, v_column, integer_of, nullability_of, number_val, numbers_in, block_numbers}
use Rattle.vx_laws_generated.specs.GeneratedTable.{generated_table, generated_zones, generated_filter, generated_projection}

-- a column of a block, and the columns of a block
abbrev pub column_in : GeneratedColumn → ℕ → ℕ → Column
column_in c rows block = column (int_ty (integer_of c) (nullability_of c)) (map (number_val (integer_of c)) (numbers_in c rows block))

abbrev pub columns_in : ℕ → ℕ → List Column
columns_in rows block = column_in id_column rows block ∷ column_in v_column rows block ∷ []

-- the blocks of the table of so many rows
abbrev pub generated_blocks : ℕ → List (List Column)
generated_blocks rows = map (columns_in rows) (block_numbers rows)

-- the reads of the scan of the table, and the store of the table after them: no read failed, and none can
abbrev pub generated_reads : ℕ → List Read
generated_reads rows = reads_of (generated_table rows) (generated_zones rows) [] (generated_filter rows) generated_projection

abbrev pub generated_store : ℕ → StoreSeen
generated_store rows =
    record {
      zones = generated_zones rows;
      held = Some (generated_table rows);
      log = generated_reads rows;
      faults = 0;
      failed = None;
      faultless = true;
    }

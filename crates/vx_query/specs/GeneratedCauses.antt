-- What the exit status of a run tells whose arguments ask the scan of a generated table.
use Rattle.std.specs.Prelude.{◌≡◌, ℕ, [], true, Option, Some, None}
use Rattle.std.specs.List.{list_all}
use Rattle.vx_io.specs.Ends.{Added}
use Rattle.vx_scan.specs.ScanLaws.{is_asked_read}
use Rattle.vx_scan.specs.Stores.{StoreSeen}
use Rattle.vx_laws_generated.specs.GeneratedTable.{generated_zones, generated_filter, generated_projection}
use Rattle.vx_laws_generated.specs.GeneratedLine.{gen_line}
use Rattle.vx_generated.specs.GeneratedBlocks.{generated_store}
use Rattle.vx_query.specs.Running.{End}
use Rattle.vx_query.specs.Causes.{HasRisen}

-- the line of the scan of the table of so many rows was written whole; nothing was taken, and the store that was scanned is held
pub record IsSummed (rows : ℕ) (in_before in_after out_before out_after : End) (used : Option StoreSeen) : Type 0 where
  pub untaken : in_after ≡ in_before
  pub written : Added out_before.bytes out_after.bytes (gen_line rows)
  pub held : used ≡ Some (generated_store rows)

-- how such a run ends: with that line, cut off by a fault of the sink, or without memory
pub data GeneratedEnd (rows : ℕ) (in_before in_after out_before out_after : End) (used : Option StoreSeen) (status : ℕ) : Type 0 where
  with_line : status ≡ 0 → IsSummed rows in_before in_after out_before out_after used → GeneratedEnd rows in_before in_after out_before out_after used status
  cut_off : status ≡ 7 → HasRisen out_before out_after → in_after ≡ in_before → GeneratedEnd rows in_before in_after out_before out_after used status
  without_memory : status ≡ 8 → in_after ≡ in_before → used ≡ None → GeneratedEnd rows in_before in_after out_before out_after used status

-- the store that is held is the one that was scanned: each of its reads is of a kept block and of a column that the filter or the projection asks
pub record HasGeneratedReads (rows : ℕ) (store : StoreSeen) : Type 0 where
  pub scanned : store ≡ generated_store rows
  pub all_asked : list_all (is_asked_read (generated_zones rows) [] (generated_filter rows) generated_projection) store.log ≡ true

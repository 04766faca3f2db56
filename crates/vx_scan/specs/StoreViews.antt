-- How a store in memory is seen.
use Rattle.std.specs.Prelude.{ℕ, List, Option, Some}
use Rattle.vx_column.specs.Columns.{Column}
use Rattle.vx_semantics.specs.Tables.{Zones}
use Rattle.vx_io.specs.Counts.{is_nothing}
use Rattle.vx_tables.specs.Blocks.{table_of_blocks}
use Rattle.vx_scan.specs.Stores.{Read, StoreSeen}
use Rattle.vx_scan.specs.declared.stores.ReadEntry.{ReadEntry}

-- the read that an entry of the log stands for
abbrev pub entry_view : ReadEntry → Read
entry_view e = (e.block, e.name)

-- a store in memory: its zones and columns, the numbers of the calls that fail, how many calls there were, the reads, the last read that failed, and
-- how many failed
pub record StoreState : Type 0 where
  pub zones : Zones
  pub blocks : List (List Column)
  pub listed : List ℕ
  pub calls : ℕ
  pub reads : List Read
  pub failed : Option Read
  pub faults : ℕ

-- a store in memory as any store is seen: it tells the table of its columns, and counts no fault where no call is to fail
abbrev pub store_seen : StoreState → StoreSeen
store_seen s =
    record {
      zones = s.zones;
      held = Some (table_of_blocks s.zones s.blocks);
      log = s.reads;
      faults = s.faults;
      failed = s.failed;
      faultless = is_nothing s.listed;
    }

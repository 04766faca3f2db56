-- A store over one in memory that doesn't tell its table.
use Rattle.std.specs.Prelude.{None, false}
use Rattle.vx_scan.specs.Stores.{StoreSeen}
use Rattle.vx_scan.specs.StoreViews.{StoreState}
use Rattle.vx_cases.specs.declared.untold_store.UntoldStore.{UntoldStore}

-- what is known of the store: its zones, its reads and its faults, but not the table
abbrev pub untold_seen : UntoldStore → StoreSeen
untold_seen s =
    record {
      zones = s.held.zones;
      held = None;
      log = s.held.reads;
      faults = s.held.faults;
      failed = s.held.failed;
      faultless = false;
    }

-- Some blocks of a store, one behind another, as a store of their own.
use Rattle.std.specs.Prelude.{◌≡◌, ℕ, ◌+◌, ◌-◌, ◌≤◌, ◌&&◌, nat_le, nat_lt, Bool, cond, List, map, length, Option, Some, None, option_map, slice_range, refl}
use Rattle.std.specs.List.{filter}
use Rattle.std.specs.Coded.{Coded, code_by, coded×, coded_ℕ}
use Rattle.vx_semantics.specs.Tables.{Table, ZoneStat, Zones}
use Rattle.vx_scan.specs.Stores.{Read, StoreSeen, WhereTold, AgreesWith}
use Rattle.vx_scan.specs.Cutting.{first_zones, later_zones, first_blocks, later_blocks}

-- the statistics of the blocks from one on, up to another one and without it, and the table of these blocks
abbrev pub zones_between : ℕ → ℕ → Zones → Zones
zones_between from up_to zones = later_zones from (first_zones up_to zones)

abbrev pub table_between : ℕ → ℕ → Table → Table
table_between from up_to table = later_blocks from (first_blocks up_to table)

-- one statistic in these blocks
abbrev pub stat_between : ℕ → ℕ → ZoneStat → ZoneStat
stat_between from up_to z = record { path = z.path; stat = z.stat; values = slice_range z.values from up_to }

-- whether a read is of one of these blocks
abbrev pub is_between : ℕ → ℕ → Read → Bool
is_between from up_to read = nat_le from read.0 && nat_lt read.0 up_to

-- a read as one of the blocks from one on alone, and the read that one of these is
abbrev pub read_from : ℕ → Read → Read
read_from from read = (read.0 - from, read.1)

abbrev pub read_behind : ℕ → Read → Read
read_behind from read = (from + read.0, read.1)

-- the reads of these blocks, as reads of them alone
abbrev pub reads_between : ℕ → ℕ → List Read → List Read
reads_between from up_to reads = map (read_from from) (filter (is_between from up_to) reads)

-- a read, where it is of one of these blocks, as one of them alone
abbrev pub read_between : ℕ → ℕ → Option Read → Option Read
read_between from up_to None = None
read_between from up_to (Some read) = cond (is_between from up_to read) (Some (read_from from read)) None

-- a store as it is seen where these blocks are all that is
abbrev pub seen_between : ℕ → ℕ → StoreSeen → StoreSeen
seen_between from up_to s =
    record {
      zones = zones_between from up_to s.zones;
      held = option_map (table_between from up_to) s.held;
      log = reads_between from up_to s.log;
      faults = s.faults;
      failed = read_between from up_to s.failed;
      faultless = s.faultless;
    }

-- a part of a store: its first block, the one behind its last, and the store
pub record Part (S : Type 0) : Type 0 where
  pub from : ℕ
  pub up_to : ℕ
  pub store : S

-- For the checker: no public clause cites what follows.

-- a part is stored as its three fields
abbrev pub coded_part : {S : Type 0} → Coded S → Coded (Part S)
coded_part {S} c =
    code_by (ℕ × (ℕ × S)) (coded× coded_ℕ (coded× coded_ℕ c)) (λ p. (p.from, (p.up_to, p.store)))
    (λ q. record { from = q.0; up_to = q.1.0; store = q.1.1 }) (λ _. refl)

-- the blocks are some of the store's, these are their statistics, and the store's table, where it is told, agrees with its own
pub record IsPartOf (from up_to : ℕ) (own : Zones) (s : StoreSeen) : Type 0 where
  pub order : from ≤ up_to
  pub within : up_to ≤ length s.zones.lengths
  pub zones : own ≡ zones_between from up_to s.zones
  pub agrees : WhereTold s.held (AgreesWith s.zones)

-- For the checker: no public clause cites this. A code of stores in memory: by it the checker tells those that are seen apart.
use Rattle.std.proofs.Common.{ℕ, refl, List, Option}
use Rattle.std.specs.Coded.{Coded, code_by, coded_ℕ, coded_list, coded_option, coded×}
use Rattle.vx_dtype.specs.Codes.{coded_bytes}
use Rattle.vx_column.specs.Columns.{Column}
use Rattle.vx_column.specs.ValCodes.{coded_column}
use Rattle.vx_semantics.specs.Tables.{Zones}
use Rattle.vx_zones.specs.ZoneCodes.{coded_zones}
use Rattle.vx_scan.specs.Stores.{Read}
use Rattle.vx_scan.specs.StoreViews.{StoreState}

-- a read is stored as the pair that it is
abbrev pub coded_read : Coded Read
coded_read = coded× coded_ℕ coded_bytes

-- what a store holds, and what it counts
abbrev pub Contents : Type 0
Contents = Zones × List (List Column)

abbrev pub Doings : Type 0
Doings = (List ℕ × ℕ) × (List Read × (Option Read × ℕ))

-- a store is stored as both
abbrev pub coded_store : Coded StoreState
coded_store =
    code_by (Contents × Doings)
    (coded× (coded× coded_zones (coded_list (coded_list coded_column)))
    (coded× (coded× (coded_list coded_ℕ) coded_ℕ) (coded× (coded_list coded_read) (coded× (coded_option coded_read) coded_ℕ))))
    (λ s. ((s.zones, s.blocks), ((s.listed, s.calls), (s.reads, (s.failed, s.faults)))))
    (λ p. record { zones = p.0.0; blocks = p.0.1; listed = p.1.0.0; calls = p.1.0.1; reads = p.1.1.0; failed = p.1.1.1.0; faults = p.1.1.1.1 })
    (λ _. refl)

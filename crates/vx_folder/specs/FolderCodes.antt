-- For the checker: no public clause cites this. A code of folders: by it the checker tells those that are seen apart.
use Rattle.std.proofs.Common.{ℕ, refl, List, Option}
use Rattle.std.specs.Coded.{Coded, code_by, coded_ℕ, coded_list, coded_option, coded×}
use Rattle.vx_dtype.specs.Types.{Bytes}
use Rattle.vx_dtype.specs.Codes.{coded_bytes}
use Rattle.vx_semantics.specs.Tables.{Zones}
use Rattle.vx_zones.specs.ZoneCodes.{coded_zones}
use Rattle.vx_laws_file.specs.FileForms.{FileContent}
use Rattle.vx_scan.specs.Stores.{Read}
use Rattle.vx_scan.specs.StoreCodes.{coded_read}
use Rattle.vx_folder.specs.FolderStates.{FolderState}

-- what files hold is stored as its zones and ranges
abbrev pub coded_content : Coded FileContent
coded_content =
    code_by (Zones × List (List Bytes)) (coded× coded_zones (coded_list (coded_list coded_bytes))) (λ c. (c.zones, c.ranges))
    (λ p. record { zones = p.0; ranges = p.1 }) (λ _. refl)

-- what a folder holds, and what it counts
abbrev pub Contents : Type 0
Contents = Zones × (Option FileContent × ℕ)

abbrev pub Doings : Type 0
Doings = List Read × (Option Read × List Read)

-- a folder is stored as both
abbrev pub coded_folder : Coded FolderState
coded_folder =
    code_by (Contents × Doings)
    (coded× (coded× coded_zones (coded× (coded_option coded_content) coded_ℕ))
    (coded× (coded_list coded_read) (coded× (coded_option coded_read) (coded_list coded_read))))
    (λ s. ((s.zones, (s.content, s.count)), (s.reads, (s.failed, s.damaged))))
    (λ p. record { zones = p.0.0; content = p.0.1.0; count = p.0.1.1; reads = p.1.0; failed = p.1.1.0; damaged = p.1.1.1 })
    (λ _. refl)

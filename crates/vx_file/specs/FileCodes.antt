-- For the checker: no public clause cites this. A code of block files: by it the checker tells those that are seen apart.
use Rattle.std.proofs.Common.{ℕ, refl, List, Option}
use Rattle.std.specs.Coded.{Coded, code_by, coded_ℕ, coded_list, coded_option, coded×}
use Rattle.vx_dtype.specs.Types.{Bytes}
use Rattle.vx_dtype.specs.Codes.{coded_bytes}
use Rattle.vx_laws_file.specs.FileForms.{Header}
use Rattle.vx_scan.specs.Stores.{Read}
use Rattle.vx_scan.specs.StoreCodes.{coded_read}
use Rattle.vx_file_open.specs.LayoutCodes.{coded_header}
use Rattle.vx_file.specs.FileStates.{FileState}

-- what a file holds, and what it counts
abbrev pub Contents : Type 0
Contents = Header × (Option Bytes × ℕ)

abbrev pub Doings : Type 0
Doings = List Read × (Option Read × List Read)

-- a file is stored as both
abbrev pub coded_file : Coded FileState
coded_file =
    code_by (Contents × Doings)
    (coded× (coded× coded_header (coded× (coded_option coded_bytes) coded_ℕ))
    (coded× (coded_list coded_read) (coded× (coded_option coded_read) (coded_list coded_read))))
    (λ s. ((s.header, (s.bytes, s.count)), (s.reads, (s.failed, s.damaged))))
    (λ p. record { header = p.0.0; bytes = p.0.1.0; count = p.0.1.1; reads = p.1.0; failed = p.1.1.0; damaged = p.1.1.1 })
    (λ _. refl)

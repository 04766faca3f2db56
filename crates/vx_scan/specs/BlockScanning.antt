-- How the scan of one block ends: as that of all blocks does, on this one alone.
use Rattle.std.specs.Prelude.{◌≡◌, ◌⊎◌, ℕ, true, false, [], ◌∷◌, List, Result, Ok, Err}
use Rattle.vx_dtype.specs.Types.{Ty}
use Rattle.vx_dtype.specs.Values.{Val}
use Rattle.vx_expr.specs.Trees.{Tree}
use Rattle.vx_semantics.specs.Meaning.{Slots}
use Rattle.vx_semantics.specs.Asked.{asked_columns}
use Rattle.vx_semantics.specs.Tables.{row_type}
use Rattle.vx_semantics.specs.Pruning.{rules_out}
use Rattle.vx_scan.specs.ErrorKinds.{ErrorKind, of_memory, of_text, of_types, of_break, of_read, kind_of}
use Rattle.vx_scan.specs.Stores.{StoreSeen}
use Rattle.vx_scan.specs.Reports.{Report, report_view}
use Rattle.vx_scan.specs.BlockRuns.{RunsBlock}
use Rattle.vx_scan.specs.Scanning.{scan_type, AreIllTyped}
use Rattle.vx_scan.specs.declared.errors.ScanError.{ScanError}
use Rattle.vx_scan.specs.declared.reports.ScanReport.{ScanReport}

-- the filter rules the block out: nothing was read, and there is no row
pub record SkipsBlock (slots : Slots) (f p : Tree) (block : ℕ) (before after : StoreSeen) (report : Report) : Type 0 where
  pub out : rules_out before.zones slots block f ≡ true
  pub unread : after ≡ before
  pub rows : report.rows ≡ []
  pub kept : report.kept ≡ []
  pub skipped : report.skipped ≡ block ∷ []

-- the filter keeps the block, and its run came to its end with these rows
pub record KeepsBlock (slots : Slots) (f p : Tree) (block : ℕ) (before after : StoreSeen) (report : Report) : Type 0 where
  pub kept_in : rules_out before.zones slots block f ≡ false
  pub run : RunsBlock slots f p block before after [] report.rows (Ok tt)
  pub kept : report.kept ≡ block ∷ []
  pub skipped : report.skipped ≡ []

-- the report of a block's scan
pub record IsBlockReport (slots : Slots) (f p : Tree) (block : ℕ) (before after : StoreSeen) (report : Report) : Type 0 where
  pub typed : scan_type (row_type before.zones.columns) slots f p ≡ Ok report.ty
  pub filter_columns : report.filter_columns ≡ asked_columns (row_type before.zones.columns) f
  pub projection_columns : report.projection_columns ≡ asked_columns (row_type before.zones.columns) p
  pub scanned : SkipsBlock slots f p block before after report ⊎ KeepsBlock slots f p block before after report

-- the run of a kept block broke, met a read that failed, or was without memory
pub record StopsInBlock (slots : Slots) (f p : Tree) (block : ℕ) (before after : StoreSeen) (e : ScanError) : Type 0 where
  pub ty : Ty
  pub typed : scan_type (row_type before.zones.columns) slots f p ≡ Ok ty
  pub kept_in : rules_out before.zones slots block f ≡ false
  pub rows : List Val
  pub run : RunsBlock slots f p block before after [] rows (Err e)

-- how the scan of one block ends by an error of a kind: as a run of the block does, or refused before it by the typing of the expressions
abbrev pub IsBlockScanStopped : ErrorKind → Slots → Tree → Tree → ℕ → StoreSeen → StoreSeen → ScanError → Type 0
IsBlockScanStopped of_memory slots f p block before after e = (after ≡ before) ⊎ StopsInBlock slots f p block before after e
IsBlockScanStopped of_text slots f p block before after e = ⊥
IsBlockScanStopped of_types slots f p block before after e = AreIllTyped slots f p before after e
IsBlockScanStopped (of_break cause) slots f p block before after e = StopsInBlock slots f p block before after e
IsBlockScanStopped of_read slots f p block before after e = StopsInBlock slots f p block before after e

-- how the scan of one block ends
abbrev pub IsBlockScanOf : Slots → Tree → Tree → ℕ → StoreSeen → StoreSeen → Result ScanReport ScanError → Type 0
IsBlockScanOf slots f p block before after (Ok report) = IsBlockReport slots f p block before after (report_view report)
IsBlockScanOf slots f p block before after (Err e) = IsBlockScanStopped (kind_of e) slots f p block before after e

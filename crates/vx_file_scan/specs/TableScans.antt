-- Which ends of a scan the table alone tells, and that they are the same over each store that holds it.
use Rattle.std.specs.Prelude.{◌≡◌, ◌⊎◌, Bool, true, List, ◌++◌, Some, Result, Ok, Err}
use Rattle.vx_dtype.specs.Types.{Bytes}
use Rattle.vx_semantics.specs.Tables.{Table}
use Rattle.vx_wire.specs.declared.encodings.ExprEncoding.{ExprEncoding}
use Rattle.vx_scan.specs.ErrorKinds.{ErrorKind, of_memory, of_read, kind_of}
use Rattle.vx_scan.specs.Stores.{Read, StoreSeen}
use Rattle.vx_scan.specs.Reports.{report_view}
use Rattle.vx_scan.specs.Scanning.{IsScan}
use Rattle.vx_scan.specs.ScanLaws.{is_break}
use Rattle.vx_scan.specs.declared.errors.ScanError.{ScanError}
use Rattle.vx_scan.specs.declared.reports.ScanReport.{ScanReport}

-- an answer that the texts and the table tell: a report, a refusal or a break, neither want of memory nor a read that failed
abbrev pub IsKindOfTable : ErrorKind → Type 0
IsKindOfTable of_memory = ⊥
IsKindOfTable of_read = ⊥
IsKindOfTable _ = Unit {0}

abbrev pub IsOfTable : Result ScanReport ScanError → Type 0
IsOfTable (Ok report) = Unit {0}
IsOfTable (Err e) = IsKindOfTable (kind_of e)

-- two answers say the same: one report; one error, or that a phase breaks, of which one may say a sum and the other a cast
abbrev pub SayTheSame : Result ScanReport ScanError → Result ScanReport ScanError → Type 0
SayTheSame (Ok r) (Ok q) = report_view r ≡ report_view q
SayTheSame (Err d) (Err e) = (d ≡ e) ⊎ ((is_break d ≡ true) × (is_break e ≡ true))
SayTheSame (Ok r) (Err e) = ⊥
SayTheSame (Err d) (Ok q) = ⊥

-- two scans end the same: their answers say the same, and the same reads were made
pub record EndTheSame (before after other left : StoreSeen) (answer reply : Result ScanReport ScanError) : Type 0 where
  pub answers : SayTheSame answer reply
  pub made : List Read
  pub grown : after.log ≡ before.log ++ made
  pub also_grown : left.log ≡ other.log ++ made

-- so end two scans by the same texts over stores that tell one table, with the same statistics, where the table tells how they end
abbrev pub ScansOfOneTableEndTheSame : Type 0
ScansOfOneTableEndTheSame =
    (holds : ExprEncoding → Bool) (filter_text projection_text : Bytes) (table : Table) (before after other left : StoreSeen)
    (answer reply : Result ScanReport ScanError) → before.held ≡ Some table → other.held ≡ Some table → other.zones ≡ before.zones
    → IsScan holds filter_text projection_text before after answer → IsScan holds filter_text projection_text other left reply
    → IsOfTable answer → IsOfTable reply → EndTheSame before after other left answer reply

-- For the checker: no public clause cites this. How the scan of a request ends, and why it gives no report.
use Rattle.std.specs.Prelude.{◌≡◌, ℕ, false, true, List, Ok}
use Rattle.std.specs.List.{filter, list_any}
use Rattle.std.specs.Str.{bytes_eq}
use Rattle.std.specs.String.{string_bytes}
use Rattle.vx_dtype.specs.Types.{Bytes, Ty}
use Rattle.vx_dtype.specs.TypeRules.{field_names}
use Rattle.vx_expr.specs.Trees.{Tree}
use Rattle.vx_semantics.specs.Breaks.{Cause, by_sum, by_cast}
use Rattle.vx_semantics.specs.Tables.{Zones}
use Rattle.vx_scan.specs.ErrorKinds.{ErrorKind, of_memory, of_break, of_read}
use Rattle.vx_scan.specs.Stores.{Read, StoreSeen}
use Rattle.vx_scan.specs.declared.errors.ScanError.{ScanError}
use Rattle.vx_request.specs.Requests.{RequestedScan}
use Rattle.vx_query.specs.Refusals.{break_name, refusal_line}
use Rattle.vx_query.specs.Running.{Statistics, HoldsScan, SpellsScan, IsScanRefused, type_of_scan}
use Rattle.vx_query.specs.Running.{scan_by, scan_breaks, scan_breaks_by, scan_report, scanned_store, broken_store}
use Rattle.vx_query.specs.declared.endings.Ending.{Ending}
use Rattle.vx_query.specs.declared.endings.Ending.TheVariants.{Report, Overflow, BadCast}

-- the names of the columns of a table that these reads are of, in the table's order
abbrev pub columns_read : Zones → List Read → List Bytes
columns_read zones reads = filter (λ c. list_any (λ r. bytes_eq c r.1) reads) (field_names zones.columns)

-- the exit status of an ending, and the text that is written
abbrev pub ending_status : Ending → ℕ
ending_status (Report text) = 0
ending_status Overflow = 5
ending_status BadCast = 5

abbrev pub ending_text : Ending → Bytes
ending_text (Report text) = string_bytes text
ending_text Overflow = refusal_line (break_name by_sum)
ending_text BadCast = refusal_line (break_name by_cast)

-- the ending of a scan that breaks by this cause
abbrev pub break_ending : Cause → Ending
break_ending by_sum = Overflow
break_ending by_cast = BadCast

-- errors of a kind end a scan so: only a break ends it, and all others are refusals
abbrev pub EndsAs : ErrorKind → Ending → Type 0
EndsAs (of_break cause) ending = ending ≡ break_ending cause
EndsAs _ ending = ⊥

-- the scan of a filter and a projection ends so, and leaves its store so
abbrev pub EndsBy : RequestedScan → Tree → Tree → Ending → StoreSeen → Type 0
EndsBy a f p (Report text) seen = (scan_breaks a f p ≡ false) × (string_bytes text ≡ scan_report a f p) × (seen ≡ scanned_store a f p)
EndsBy a f p Overflow seen = (scan_breaks_by by_sum a f p ≡ true) × (seen ≡ broken_store a f p)
EndsBy a f p BadCast seen = (scan_breaks_by by_cast a f p ≡ true) × (seen ≡ broken_store a f p)

-- the texts of a scan spell a filter and a projection, strictly typed for its table, whose scan ends so
pub record IsScanned (a : RequestedScan) (ending : Ending) (seen : StoreSeen) : Type 0 where
  pub filter : Tree
  pub projection : Tree
  pub spelled : SpellsScan a filter projection
  pub ty : Ty
  pub typed : type_of_scan a filter projection ≡ Ok ty
  pub ends : EndsBy a filter projection ending seen

-- an input holds a scan that ends so by these statistics
pub record IsAnswered (s : Statistics) (input : Bytes) (ending : Ending) (seen : StoreSeen) : Type 0 where
  pub asked : RequestedScan
  pub filter : Tree
  pub projection : Tree
  pub holds : HoldsScan input asked filter projection
  pub ends : EndsBy (scan_by s asked) filter projection ending seen

-- why a scan whose store counts no fault gives no report, by the kind of the error
abbrev pub IsUnreported : ErrorKind → RequestedScan → ScanError → StoreSeen → Type 0
IsUnreported of_memory a e seen = Unit {0}
IsUnreported (of_break cause) a e seen = IsScanned a (break_ending cause) seen
IsUnreported of_read a e seen = ⊥
IsUnreported _ a e seen = IsScanRefused a e

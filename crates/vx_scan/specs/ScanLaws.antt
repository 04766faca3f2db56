-- What follows from how scans end, whatever the store.
use Rattle.std.specs.Prelude.{◌≡◌, ◌⊎◌, ◌<◌, ◌-◌, ◌^◌, Bool, true, false, not, ◌&&◌, ◌||◌, nat_eq, List, [], ◌∷◌, Some, Result, Ok, Err}
use Rattle.std.specs.List.{list_any, list_all}
use Rattle.std.specs.Str.{bytes_eq}
use Rattle.vx_dtype.specs.Types.{Bytes, Ty}
use Rattle.vx_dtype.specs.TypeRules.{has_name, field_names, distinct_names}
use Rattle.vx_expr.specs.Trees.{Tree}
use Rattle.vx_semantics.specs.Meaning.{Slots}
use Rattle.vx_semantics.specs.Breaks.{by_sum, by_cast}
use Rattle.vx_semantics.specs.Asked.{asked_columns}
use Rattle.vx_semantics.specs.Honest.{IsHonest}
use Rattle.vx_semantics.specs.Tables.{Table, Zones, row_type}
use Rattle.vx_semantics.specs.Scans.{rows_of, kept_blocks, phases_of, some_phase_breaks, first_breaks_by}
use Rattle.vx_io.specs.Counts.{one_more}
use Rattle.vx_wire.specs.declared.encodings.ExprEncoding.{ExprEncoding}
use Rattle.vx_scan.specs.ErrorKinds.{ErrorKind, of_text, of_types, of_break, kind_of, OnlyOfMemory, OnlyOfBreaks}
use Rattle.vx_scan.specs.Stores.{Read, StoreSeen, IsSameStore}
use Rattle.vx_scan.specs.Texts.{SpellBoth, AreRefused}
use Rattle.vx_scan.specs.Reports.{Report, report_view}
use Rattle.vx_scan.specs.Scanning.{scan_type, asked_reads, AreAmong, IsReport, IsScanOf, IsScan}
use Rattle.vx_scan.specs.declared.errors.ScanError.{ScanError}
use Rattle.vx_scan.specs.declared.errors.ScanError.TheVariants as errors
use Rattle.vx_scan.specs.declared.reports.ScanReport.{ScanReport}

-- two texts that spell two expressions are scanned as these, without slots
abbrev pub TextsScanAsTheySpell : Type 0
TextsScanAsTheySpell =
    (holds : ExprEncoding → Bool) (filter_text projection_text : Bytes) (filter_expr projection : Tree) (before after : StoreSeen)
    (result : Result ScanReport ScanError)
    → SpellBoth holds filter_text projection_text filter_expr projection → IsScan holds filter_text projection_text before after result
    → IsScanOf [] filter_expr projection before after result

-- over honest statistics the rows of a report are all rows of the answer
abbrev pub HonestScansAreWhole : Type 0
HonestScansAreWhole =
    (slots : Slots) (filter_expr projection : Tree) (before after : StoreSeen) (report : Report) (table : Table)
    → IsReport slots filter_expr projection before after report → before.held ≡ Some table → IsHonest before.zones table
    → report.rows ≡ rows_of table slots filter_expr projection

abbrev pub HonestTextScansAreWhole : Type 0
HonestTextScansAreWhole =
    (holds : ExprEncoding → Bool) (filter_text projection_text : Bytes) (filter_expr projection : Tree) (before after : StoreSeen) (report : ScanReport)
    (table : Table) → SpellBoth holds filter_text projection_text filter_expr projection
    → IsScan holds filter_text projection_text before after (Ok report) → before.held ≡ Some table → IsHonest before.zones table
    → (report_view report).rows ≡ rows_of table [] filter_expr projection

-- a scan of typed expressions over a told table in which no fault was counted
pub record IsQuietScan (slots : Slots) (filter_expr projection : Tree) (table : Table) (before after : StoreSeen) : Type 0 where
  pub held : before.held ≡ Some table
  pub ty : Ty
  pub typed : scan_type (row_type before.zones.columns) slots filter_expr projection ≡ Ok ty
  pub no_fault : after.faults < one_more before.faults

-- a store that is known to count no fault counted none, where its count isn't at its last value
abbrev pub FaultlessStoresCountNoFault : Type 0
FaultlessStoresCountNoFault =
    (before after : StoreSeen) → IsSameStore before after → before.faultless ≡ true → before.faults < 2 ^ 64 - 1 → after.faults < one_more before.faults

-- a report, or no memory for it
abbrev pub ReportsUnlessNoMemory : Result ScanReport ScanError → Type 0
ReportsUnlessNoMemory (Ok report) = Unit {0}
ReportsUnlessNoMemory (Err e) = OnlyOfMemory (kind_of e)

-- where no phase breaks there is a report
abbrev pub UnbrokenScansReport : Type 0
UnbrokenScansReport =
    (slots : Slots) (filter_expr projection : Tree) (table : Table) (before after : StoreSeen) (result : Result ScanReport ScanError)
    → IsQuietScan slots filter_expr projection table before after → some_phase_breaks table before.zones slots filter_expr projection ≡ false
    → IsScanOf slots filter_expr projection before after result → ReportsUnlessNoMemory result

abbrev pub UnbrokenTextScansReport : Type 0
UnbrokenTextScansReport =
    (holds : ExprEncoding → Bool) (filter_text projection_text : Bytes) (filter_expr projection : Tree) (table : Table) (before after : StoreSeen)
    (result : Result ScanReport ScanError)
    → SpellBoth holds filter_text projection_text filter_expr projection → IsQuietScan [] filter_expr projection table before after
    → some_phase_breaks table before.zones [] filter_expr projection ≡ false → IsScan holds filter_text projection_text before after result
    → ReportsUnlessNoMemory result

-- a sum or a cast that breaks, or no memory to come to it
abbrev pub BreaksUnlessNoMemory : Result ScanReport ScanError → Type 0
BreaksUnlessNoMemory (Ok report) = ⊥
BreaksUnlessNoMemory (Err e) = OnlyOfBreaks (kind_of e)

-- where a phase breaks there is no report
abbrev pub ScansBreakWhereAPhaseBreaks : Type 0
ScansBreakWhereAPhaseBreaks =
    (slots : Slots) (filter_expr projection : Tree) (table : Table) (before after : StoreSeen) (result : Result ScanReport ScanError)
    → IsQuietScan slots filter_expr projection table before after → some_phase_breaks table before.zones slots filter_expr projection ≡ true
    → IsScanOf slots filter_expr projection before after result → BreaksUnlessNoMemory result

abbrev pub TextScansBreakWhereAPhaseBreaks : Type 0
TextScansBreakWhereAPhaseBreaks =
    (holds : ExprEncoding → Bool) (filter_text projection_text : Bytes) (filter_expr projection : Tree) (table : Table) (before after : StoreSeen)
    (result : Result ScanReport ScanError)
    → SpellBoth holds filter_text projection_text filter_expr projection → IsQuietScan [] filter_expr projection table before after
    → some_phase_breaks table before.zones [] filter_expr projection ≡ true → IsScan holds filter_text projection_text before after result
    → BreaksUnlessNoMemory result

-- this refusal, or no memory to come to it
abbrev pub RefusesBy : ScanError → Result ScanReport ScanError → Type 0
RefusesBy e (Ok report) = ⊥
RefusesBy e (Err d) = (d ≡ e) ⊎ (d ≡ errors.NoMemory)

-- where the expressions' typing refuses, and where the texts do, there is that refusal
abbrev pub RefusedTypesAreRefused : Type 0
RefusedTypesAreRefused =
    (slots : Slots) (filter_expr projection : Tree) (before after : StoreSeen) (e : ScanError) (result : Result ScanReport ScanError)
    → scan_type (row_type before.zones.columns) slots filter_expr projection ≡ Err e → IsScanOf slots filter_expr projection before after result
    → RefusesBy e result

abbrev pub RefusedTextsAreRefused : Type 0
RefusedTextsAreRefused =
    (holds : ExprEncoding → Bool) (filter_text projection_text : Bytes) (before after : StoreSeen) (e : ScanError) (result : Result ScanReport ScanError)
    → AreRefused holds filter_text projection_text e → IsScan holds filter_text projection_text before after result → RefusesBy e result

-- whether errors of a kind refuse the expressions before the first block, and whether a phase that breaks gives them
abbrev pub kind_refuses : ErrorKind → Bool
kind_refuses of_text = true
kind_refuses of_types = true
kind_refuses _ = false

abbrev pub kind_breaks : ErrorKind → Bool
kind_breaks (of_break cause) = true
kind_breaks _ = false

-- whether an error does so
abbrev pub is_refusal : ScanError → Bool
is_refusal e = kind_refuses (kind_of e)

abbrev pub is_break : ScanError → Bool
is_break e = kind_breaks (kind_of e)

-- from one store that tells its table, scans of the same expressions don't end one with a report and one with a refusal or a break
abbrev pub ReportsExcludeErrors : Type 0
ReportsExcludeErrors =
    (slots : Slots) (filter_expr projection : Tree) (table : Table) (before after other : StoreSeen) (report : ScanReport) (e : ScanError)
    → before.held ≡ Some table → (is_refusal e || is_break e) ≡ true → IsScanOf slots filter_expr projection before after (Ok report)
    → ¬ (IsScanOf slots filter_expr projection before other (Err e))

abbrev pub TextReportsExcludeErrors : Type 0
TextReportsExcludeErrors =
    (holds : ExprEncoding → Bool) (filter_text projection_text : Bytes) (table : Table) (before after other : StoreSeen) (report : ScanReport) (e : ScanError)
    → before.held ≡ Some table → (is_refusal e || is_break e) ≡ true → IsScan holds filter_text projection_text before after (Ok report)
    → ¬ (IsScan holds filter_text projection_text before other (Err e))

-- nor one with a refusal and one with a break
abbrev pub RefusalsExcludeBreaks : Type 0
RefusalsExcludeBreaks =
    (slots : Slots) (filter_expr projection : Tree) (before after other : StoreSeen) (d e : ScanError) → is_refusal d ≡ true → is_break e ≡ true
    → IsScanOf slots filter_expr projection before after (Err d) → ¬ (IsScanOf slots filter_expr projection before other (Err e))

abbrev pub TextRefusalsExcludeBreaks : Type 0
TextRefusalsExcludeBreaks =
    (holds : ExprEncoding → Bool) (filter_text projection_text : Bytes) (before after other : StoreSeen) (d e : ScanError)
    → is_refusal d ≡ true → is_break e ≡ true → IsScan holds filter_text projection_text before after (Err d)
    → ¬ (IsScan holds filter_text projection_text before other (Err e))

-- nor with two refusals
abbrev pub RefusalsAreOne : Type 0
RefusalsAreOne =
    (slots : Slots) (filter_expr projection : Tree) (before after other : StoreSeen) (d e : ScanError) → is_refusal d ≡ true → is_refusal e ≡ true
    → IsScanOf slots filter_expr projection before after (Err d) → IsScanOf slots filter_expr projection before other (Err e) → d ≡ e

-- and one by a sum and one by a cast only where the first phase that breaks does so by both
abbrev pub BothBreaksAreOfOnePhase : Type 0
BothBreaksAreOfOnePhase =
    (slots : Slots) (filter_expr projection : Tree) (table : Table) (before after other : StoreSeen) → before.held ≡ Some table
    → IsScanOf slots filter_expr projection before after (Err errors.Overflow) → IsScanOf slots filter_expr projection before other (Err errors.BadCast)
    → (first_breaks_by by_sum (row_type table.columns) slots (phases_of table before.zones slots filter_expr projection) ≡ true)
    × (first_breaks_by by_cast (row_type table.columns) slots (phases_of table before.zones slots filter_expr projection) ≡ true)

-- whether a read is of a kept block and of a column that one of the expressions asks
abbrev pub is_asked_read : Zones → Slots → Tree → Tree → Read → Bool
is_asked_read zones slots filter_expr projection r =
    list_any (nat_eq r.0) (kept_blocks zones slots filter_expr)
    && (has_name r.1 (asked_columns (row_type zones.columns) filter_expr) || has_name r.1 (asked_columns (row_type zones.columns) projection))

-- whether two reads are of one block and column, and whether no read stands twice
abbrev pub same_read : Read → Read → Bool
same_read r s = nat_eq r.0 s.0 && bytes_eq r.1 s.1

abbrev pub distinct_reads : List Read → Bool
distinct_reads [] = true
distinct_reads (r ∷ rs) = not (list_any (same_read r) rs) && distinct_reads rs

-- each read of a scan is an asked one, and where no column has the name of another none is made twice
abbrev pub ReadsAreAsked : Type 0
ReadsAreAsked =
    (zones : Zones) (slots : Slots) (filter_expr projection : Tree) (made : List Read) → AreAmong made (asked_reads zones slots filter_expr projection)
    → list_all (is_asked_read zones slots filter_expr projection) made ≡ true

abbrev pub ReadsAreDistinct : Type 0
ReadsAreDistinct =
    (zones : Zones) (slots : Slots) (filter_expr projection : Tree) (made : List Read) → distinct_names (field_names zones.columns) ≡ true
    → AreAmong made (asked_reads zones slots filter_expr projection) → distinct_reads made ≡ true

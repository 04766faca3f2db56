-- What the ends of finding first rows say: over honest statistics the rows are the first of all, a report comes where no phase breaks, and the first refusal
-- is told by the key's column and by typing alone.
use Rattle.std.specs.Prelude.{ℕ, ◌≡◌, ◌<◌, ◌⊎◌, Bool, true, false, cond, ◌||◌, [], Option, Some, None, Result, Ok, Err}
use Rattle.vx_dtype.specs.Types.{Bytes, Ty}
use Rattle.vx_dtype.specs.TypeRules.{is_plain, field_type}
use Rattle.vx_expr.specs.Trees.{Tree}
use Rattle.vx_semantics.specs.Breaks.{by_sum, by_cast}
use Rattle.vx_semantics.specs.Honest.{IsHonest}
use Rattle.vx_semantics.specs.Tables.{Table, Zones, row_type}
use Rattle.vx_io.specs.Counts.{one_more}
use Rattle.vx_laws_topk.specs.TopRows.{first_rows, values_of, all_keyed}
use Rattle.vx_laws_topk.specs.TopLaws.{has_no_slot}
use Rattle.vx_laws_topk.specs.TopPhases.{some_top_phase_breaks, first_top_breaks_by}
use Rattle.vx_scan.specs.Stores.{StoreSeen, AgreesWith}
use Rattle.vx_scan.specs.Scanning.{scan_type}
use Rattle.vx_scan.specs.ScanLaws.{is_refusal, is_break}
use Rattle.vx_scan.specs.declared.errors.ScanError.{ScanError}
use Rattle.vx_scan.specs.declared.errors.ScanError.TheVariants as scans
use Rattle.vx_topk.specs.TopEnds.{top_view, IsTypedTop, OfSomeKey, top_ask, IsTopOf}
use Rattle.vx_topk.specs.declared.errors.TopError.{TopError}
use Rattle.vx_topk.specs.declared.errors.TopError.TheVariants as errors
use Rattle.vx_topk.specs.declared.reports.TopReport.{TopReport}

-- what is asked compares with no slot
pub record AsksNoSlot (f p : Tree) : Type 0 where
  pub filter : has_no_slot f ≡ true
  pub projection : has_no_slot p ≡ true

-- a store tells its table, which agrees with the zones, and whose statistics are honest
pub record TellsHonestTable (table : Table) (store : StoreSeen) : Type 0 where
  pub held : store.held ≡ Some table
  pub agrees : AgreesWith store.zones table
  pub honest : IsHonest store.zones table

-- over honest statistics the rows of a report are the values of the first of all rows of the table at which the filter is true
abbrev pub HonestTopsAreFirst : Type 0
HonestTopsAreFirst =
    (f p : Tree) (key : Bytes) (descending : Bool) (count : ℕ) (table : Table) (before after : StoreSeen) (report : TopReport)
    → AsksNoSlot f p → TellsHonestTable table before → IsTopOf f p key descending count before after (Ok report)
    → OfSomeKey (λ t. (field_type key table.columns ≡ Some t)
    × ((top_view report).rows ≡ values_of (first_rows (top_ask f p key descending count t) (all_keyed (top_ask f p key descending count t) table))))

-- typed first rows by a key of this type were asked of a told table, and no fault was counted
pub record IsQuietTop (f p : Tree) (key : Bytes) (descending : Bool) (count : ℕ) (t : Ty) (table : Table) (before after : StoreSeen) : Type 0 where
  pub held : before.held ≡ Some table
  pub ty : Ty
  pub typed : IsTypedTop before.zones (top_ask f p key descending count t) ty
  pub no_fault : after.faults < one_more before.faults

-- a report, or no memory for it
abbrev pub TopsReportUnlessNoMemory : Result TopReport TopError → Type 0
TopsReportUnlessNoMemory (Ok report) = Unit {0}
TopsReportUnlessNoMemory (Err errors.NoMemory) = Unit {0}
TopsReportUnlessNoMemory (Err _) = ⊥

-- where no phase breaks there is a report
abbrev pub UnbrokenTopsReport : Type 0
UnbrokenTopsReport =
    (f p : Tree) (key : Bytes) (descending : Bool) (count : ℕ) (t : Ty) (table : Table) (before after : StoreSeen) (result : Result TopReport TopError)
    → IsQuietTop f p key descending count t table before after
    → some_top_phase_breaks (top_ask f p key descending count t) table before.zones ≡ false
    → IsTopOf f p key descending count before after result → TopsReportUnlessNoMemory result

-- a sum or a cast that breaks, or no memory to come to it
abbrev pub TopsBreakUnlessNoMemory : Result TopReport TopError → Type 0
TopsBreakUnlessNoMemory (Err (errors.Scan scans.Overflow)) = Unit {0}
TopsBreakUnlessNoMemory (Err (errors.Scan scans.BadCast)) = Unit {0}
TopsBreakUnlessNoMemory (Err errors.NoMemory) = Unit {0}
TopsBreakUnlessNoMemory _ = ⊥

-- where a phase breaks there is no report
abbrev pub TopsBreakWhereAPhaseBreaks : Type 0
TopsBreakWhereAPhaseBreaks =
    (f p : Tree) (key : Bytes) (descending : Bool) (count : ℕ) (t : Ty) (table : Table) (before after : StoreSeen) (result : Result TopReport TopError)
    → IsQuietTop f p key descending count t table before after
    → some_top_phase_breaks (top_ask f p key descending count t) table before.zones ≡ true
    → IsTopOf f p key descending count before after result → TopsBreakUnlessNoMemory result

-- the first refusal before the first block, none where the key's column is of a plain type and the expressions are typed
abbrev pub type_refusal : Result Ty ScanError → Option TopError
type_refusal (Ok u) = None
type_refusal (Err e) = Some (errors.Scan e)

abbrev pub key_refusal : Option Ty → Option TopError → Option TopError
key_refusal None next = Some errors.UnknownKey
key_refusal (Some t) next = cond (is_plain t) next (Some errors.BadKey)

abbrev pub top_refusal : Zones → Tree → Tree → Bytes → Option TopError
top_refusal zones f p key = key_refusal (field_type key zones.columns) (type_refusal (scan_type (row_type zones.columns) [] f p))

-- this refusal, or no memory to come to it
abbrev pub TopsRefuseBy : TopError → Result TopReport TopError → Type 0
TopsRefuseBy e (Ok report) = ⊥
TopsRefuseBy e (Err d) = (d ≡ e) ⊎ (d ≡ errors.NoMemory)

abbrev pub RefusedTopsAreRefused : Type 0
RefusedTopsAreRefused =
    (f p : Tree) (key : Bytes) (descending : Bool) (count : ℕ) (before after : StoreSeen) (e : TopError) (result : Result TopReport TopError)
    → top_refusal before.zones f p key ≡ Some e → IsTopOf f p key descending count before after result → TopsRefuseBy e result

-- whether an error refuses before the first block, and whether a phase that breaks gives it
abbrev pub is_top_refusal : TopError → Bool
is_top_refusal errors.NoMemory = false
is_top_refusal errors.UnknownKey = true
is_top_refusal errors.BadKey = true
is_top_refusal (errors.Scan e) = is_refusal e

abbrev pub is_top_break : TopError → Bool
is_top_break (errors.Scan e) = is_break e
is_top_break _ = false

-- a refusal comes only where it is the first
abbrev pub RefusalsAreTheFirst : Type 0
RefusalsAreTheFirst =
    (f p : Tree) (key : Bytes) (descending : Bool) (count : ℕ) (before after : StoreSeen) (e : TopError) → is_top_refusal e ≡ true
    → IsTopOf f p key descending count before after (Err e) → top_refusal before.zones f p key ≡ Some e

-- from one store that tells its table, the same first rows don't end once with a report and once with a refusal or a break
abbrev pub TopReportsExcludeErrors : Type 0
TopReportsExcludeErrors =
    (f p : Tree) (key : Bytes) (descending : Bool) (count : ℕ) (table : Table) (before after other : StoreSeen) (report : TopReport) (e : TopError)
    → before.held ≡ Some table → (is_top_refusal e || is_top_break e) ≡ true → IsTopOf f p key descending count before after (Ok report)
    → ¬ (IsTopOf f p key descending count before other (Err e))

-- nor once with a refusal and once with a break
abbrev pub TopRefusalsExcludeBreaks : Type 0
TopRefusalsExcludeBreaks =
    (f p : Tree) (key : Bytes) (descending : Bool) (count : ℕ) (before after other : StoreSeen) (d e : TopError)
    → is_top_refusal d ≡ true → is_top_break e ≡ true
    → IsTopOf f p key descending count before after (Err d) → ¬ (IsTopOf f p key descending count before other (Err e))

-- nor with two refusals
abbrev pub TopRefusalsAreOne : Type 0
TopRefusalsAreOne =
    (f p : Tree) (key : Bytes) (descending : Bool) (count : ℕ) (before after other : StoreSeen) (d e : TopError)
    → is_top_refusal d ≡ true → is_top_refusal e ≡ true
    → IsTopOf f p key descending count before after (Err d) → IsTopOf f p key descending count before other (Err e) → d ≡ e

-- and once by a sum and once by a cast only where the first phase that breaks does so by both
abbrev pub BothTopBreaksAreOfOnePhase : Type 0
BothTopBreaksAreOfOnePhase =
    (f p : Tree) (key : Bytes) (descending : Bool) (count : ℕ) (table : Table) (before after other : StoreSeen) → before.held ≡ Some table
    → IsTopOf f p key descending count before after (Err (errors.Scan scans.Overflow))
    → IsTopOf f p key descending count before other (Err (errors.Scan scans.BadCast))
    → OfSomeKey (λ t. (first_top_breaks_by by_sum (top_ask f p key descending count t) table before.zones ≡ true)
    × (first_top_breaks_by by_cast (top_ask f p key descending count t) table before.zones ≡ true))

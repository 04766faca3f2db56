-- What the exit status of a run tells: the report, the explanation or the shown text that 0 means, and the cause of each other one.
use Rattle.std.specs.Prelude.{◌≡◌, ◌⊎◌, ℕ, ◌≤◌, nat_eq, [], map, length, codes, Bool, true, false, cond, ◌&&◌, ◌||◌, Option, Some, None, Err}
use Rattle.std.specs.List.{list_any, list_all}
use Rattle.vx_dtype.specs.Types.{Bytes}
use Rattle.vx_expr.specs.Trees.{Tree}
use Rattle.vx_semantics.specs.Breaks.{Cause}
use Rattle.vx_dtype.specs.TypeRules.{has_name}
use Rattle.vx_semantics.specs.Asked.{asked_columns}
use Rattle.vx_semantics.specs.Tables.{row_type, numbered_from}
use Rattle.vx_semantics.specs.Scans.{rows_of, skipped_blocks, read_columns, matching_rows, has_rows}
use Rattle.vx_display.specs.ValueTexts.{value_text}
use Rattle.vx_io.specs.Counts.{one_more}
use Rattle.vx_io.specs.Ends.{Added, AddedPrefix}
use Rattle.vx_scan.specs.ScanLaws.{is_asked_read, distinct_reads}
use Rattle.vx_scan.specs.Stores.{Read, StoreSeen}
use Rattle.vx_scan.specs.declared.errors.ScanError.{ScanError}
use Rattle.vx_request.specs.Requests.{RequestedScan, request_of, hex_bytes}
use Rattle.vx_request.specs.declared.errors.RequestError.{RequestError}
use Rattle.vx_query.specs.Reports.{report_text}
use Rattle.vx_query.specs.Refusals.{request_refusal_name, scan_refusal_name, text_refusal_name, break_name, refusal_line}
use Rattle.vx_text.specs.Reading.{reading_of}
use Rattle.vx_text.specs.declared.errors.TextError.{TextError}
use Rattle.vx_text.specs.declared.errors.TextError.TheVariants.{TooLong}
use Rattle.vx_explain.specs.Explanations.{explain_text}
use Rattle.vx_query.specs.Running.{FailsToRead, IsCutShort, used_by, WordIsRefused}
use Rattle.vx_query.specs.Running.{End, Form, Statistics, IsTaken, HoldsScan, HoldsRefused, WordSpells, Names}
use Rattle.vx_query.specs.Running.{HasDeepType, HasLongPart, HasBytes, bytes_line, Outcome}
use Rattle.vx_query.specs.Running.{IsOutcome, outcome_text, scan_form, scan_by, scan_table, scan_reads, scan_report, scan_breaks}
use Rattle.vx_query.specs.Running.{scan_breaks_by, scanned_store, broken_store}

-- an end counted a fault
abbrev pub HasRisen : End → End → Type 0
HasRisen before after = one_more before.faults ≤ after.faults

-- a report was written whole: of the scan by these statistics that the input holds, no phase of which breaks, and whose store is held
pub record IsReported (s : Statistics) (in_before in_after out_before out_after : End) (used : Option StoreSeen) : Type 0 where
  pub input : Bytes
  pub asked : RequestedScan
  pub filter : Tree
  pub projection : Tree
  pub taken : IsTaken in_before in_after input
  pub asks : HoldsScan input asked filter projection
  pub unbroken : scan_breaks (scan_by s asked) filter projection ≡ false
  pub written : Added out_before.bytes out_after.bytes (scan_report (scan_by s asked) filter projection)
  pub held : used ≡ Some (scanned_store (scan_by s asked) filter projection)

-- an input was taken that is no request, and the line of its refusal was written; no store is held
pub record IsUnasked (in_before in_after out_before out_after : End) (used : Option StoreSeen) : Type 0 where
  pub input : Bytes
  pub refusal : RequestError
  pub taken : IsTaken in_before in_after input
  pub cause : request_of input ≡ Err refusal
  pub written : Added out_before.bytes out_after.bytes (refusal_line (request_refusal_name refusal))
  pub unheld : used ≡ None

-- an input was taken that holds a scan whose expressions are refused, and the line of the refusal was written; no store is held
pub record IsUnscanned (in_before in_after out_before out_after : End) (used : Option StoreSeen) : Type 0 where
  pub input : Bytes
  pub refusal : ScanError
  pub taken : IsTaken in_before in_after input
  pub cause : HoldsRefused input refusal
  pub written : Added out_before.bytes out_after.bytes (refusal_line (scan_refusal_name refusal))
  pub unheld : used ≡ None

-- the arguments ask a scan by some statistics, and an input was taken that holds one
pub record AsksScan (form : Option Form) (in_before in_after : End) : Type 0 where
  pub statistics : Statistics
  pub scans : form ≡ Some (scan_form statistics)
  pub input : Bytes
  pub asked : RequestedScan
  pub filter : Tree
  pub projection : Tree
  pub taken : IsTaken in_before in_after input
  pub asks : HoldsScan input asked filter projection

-- and its first phase that breaks by these statistics does so by a cause
pub record HasBroken (cause : Cause) (form : Option Form) (in_before in_after : End) : Type 0 where
  pub scan : AsksScan form in_before in_after
  pub breaks : scan_breaks_by cause (scan_by scan.statistics scan.asked) scan.filter scan.projection ≡ true

-- a scan broke, and the line of the cause was written; the store is held with the reads up to there
pub record IsStopped (form : Option Form) (in_before in_after out_before out_after : End) (used : Option StoreSeen) : Type 0 where
  pub cause : Cause
  pub broken : HasBroken cause form in_before in_after
  pub written : Added out_before.bytes out_after.bytes (refusal_line (break_name cause))
  pub held : used ≡ Some (broken_store (scan_by broken.scan.statistics broken.scan.asked) broken.scan.filter broken.scan.projection)

-- the store after a scan: with the reads up to the end of its first phase that breaks where one does, with all where none does
abbrev pub store_after : RequestedScan → Tree → Tree → StoreSeen
store_after a f p = cond (scan_breaks a f p) (broken_store a f p) (scanned_store a f p)

-- whether a read is of a column that the filter asks, or of a block at some row of which the filter means true
abbrev pub is_needed_read : RequestedScan → Tree → Read → Bool
is_needed_read a f r =
    has_name r.1 (asked_columns (row_type a.zones.columns) f)
    || list_any (λ b. nat_eq r.0 b.0 && has_rows (matching_rows (row_type a.zones.columns) [] f b.1)) (numbered_from 0 (scan_table a).blocks)

-- a store that was scanned as the arguments and the input ask. Each of its reads is of a kept block and of a column that the filter or the projection
-- asks, for the projection alone only where the filter means true at some row of the block; and none stands twice
pub record HasAskedReads (form : Option Form) (in_before in_after : End) (store : StoreSeen) : Type 0 where
  pub scan : AsksScan form in_before in_after
  pub held : store ≡ store_after (scan_by scan.statistics scan.asked) scan.filter scan.projection
  pub all_asked : list_all (is_asked_read (scan_by scan.statistics scan.asked).zones [] scan.filter scan.projection) store.log ≡ true
  pub all_needed : list_all (is_needed_read (scan_by scan.statistics scan.asked) scan.filter) store.log ≡ true
  pub distinct : distinct_reads store.log ≡ true

-- an explanation was written whole: of the scan that the input holds; no store is held
pub record IsExplained (in_before in_after out_before out_after : End) (used : Option StoreSeen) : Type 0 where
  pub input : Bytes
  pub asked : RequestedScan
  pub filter : Tree
  pub projection : Tree
  pub taken : IsTaken in_before in_after input
  pub asks : HoldsScan input asked filter projection
  pub written : Added out_before.bytes out_after.bytes (explain_text asked.zones filter projection)
  pub unheld : used ≡ None

-- the text of the expression that the bytes of a word of hexadecimal digits spell was written whole; nothing was taken, and no store is held
pub record IsShown (told : Tree → Bytes) (word : Bytes) (in_before in_after out_before out_after : End) (used : Option StoreSeen) : Type 0 where
  pub expression : Tree
  pub spelled : WordSpells word expression
  pub untaken : in_after ≡ in_before
  pub written : Added out_before.bytes out_after.bytes (told expression)
  pub unheld : used ≡ None

-- the bytes of the expression that a query names were written whole; nothing was taken, and no store is held
pub record IsNamed (query : Bytes) (in_before in_after out_before out_after : End) (used : Option StoreSeen) : Type 0 where
  pub expression : Tree
  pub names : Names query expression
  pub bytes : HasBytes expression
  pub untaken : in_after ≡ in_before
  pub written : Added out_before.bytes out_after.bytes (bytes_line expression)
  pub unheld : used ≡ None

-- a query that is too long itself, or names an expression of which a part is
abbrev pub IsLongQuery : Bytes → Type 0
IsLongQuery query = (reading_of query ≡ Err TooLong) ⊎ HasLongPart query

-- the line of arguments of no form was written whole; nothing was taken, and no store is held
pub record IsMisuse (in_before in_after out_before out_after : End) (used : Option StoreSeen) (status : ℕ) : Type 0 where
  pub ends : status ≡ 2
  pub written : Added out_before.bytes out_after.bytes (refusal_line (codes "Usage"))
  pub untaken : in_after ≡ in_before
  pub unheld : used ≡ None

-- the sink counted a fault, and the first bytes were written of the text in which the run was to end; what was taken, and the store that is held, are
-- those of that end
pub record IsCut (form : Option Form) (in_before in_after out_before out_after : End) (used : Option StoreSeen) : Type 0 where
  pub outcome : Outcome
  pub comes : IsOutcome form in_before in_after outcome
  pub risen : HasRisen out_before out_after
  pub written : AddedPrefix out_before.bytes out_after.bytes (outcome_text outcome)
  pub held : used ≡ used_by outcome

-- arguments that read an input couldn't read it, and the line of this was written whole; no store is held
pub record IsUnread (form : Option Form) (in_before in_after out_before out_after : End) (used : Option StoreSeen) : Type 0 where
  pub failed : FailsToRead form in_before in_after
  pub written : Added out_before.bytes out_after.bytes (refusal_line (codes "ReadFault"))
  pub unheld : used ≡ None

-- there was no memory: its line was written whole; no store is held
pub record IsWithoutMemory (form : Option Form) (in_before in_after out_before out_after : End) (used : Option StoreSeen) : Type 0 where
  pub part : IsCutShort form in_before in_after
  pub written : Added out_before.bytes out_after.bytes (refusal_line (codes "NoMemory"))
  pub unheld : used ≡ None

-- a text was written whole, whatever the input, of which nothing was taken; no store is held
pub record IsTold (text : Bytes) (in_before in_after out_before out_after : End) (used : Option StoreSeen) (status : ℕ) : Type 0 where
  pub ends : status ≡ 0
  pub written : Added out_before.bytes out_after.bytes text
  pub untaken : in_after ≡ in_before
  pub unheld : used ≡ None

-- the line of a word that is no hexadecimal text was written whole; nothing was taken, and no store is held
pub record IsUndigited (word : Bytes) (in_before in_after out_before out_after : End) (used : Option StoreSeen) : Type 0 where
  pub cause : hex_bytes word ≡ None
  pub written : Added out_before.bytes out_after.bytes (refusal_line (codes "BadHex text"))
  pub untaken : in_after ≡ in_before
  pub unheld : used ≡ None

-- that of a word whose bytes spell no expression, for a reason
pub record IsUnshown (word : Bytes) (in_before in_after out_before out_after : End) (used : Option StoreSeen) : Type 0 where
  pub refusal : ScanError
  pub cause : WordIsRefused word refusal
  pub written : Added out_before.bytes out_after.bytes (refusal_line (scan_refusal_name refusal))
  pub untaken : in_after ≡ in_before
  pub unheld : used ≡ None

-- a query has no bytes, for the reason of this name: its reading is refused, or a type in the expression that it names is too deep, or a part too long
abbrev pub HasNoBytes : Bytes → Bytes → Type 0
HasNoBytes query name =
    ((e : TextError) × (reading_of query ≡ Err e) × (name ≡ text_refusal_name e))
    ⊎ ((HasDeepType query × (name ≡ codes "NotSerializable")) ⊎ (HasLongPart query × (name ≡ codes "TooLong")))

-- the line of a query that has none was written whole
pub record IsUnnamed (query : Bytes) (in_before in_after out_before out_after : End) (used : Option StoreSeen) : Type 0 where
  pub name : Bytes
  pub cause : HasNoBytes query name
  pub written : Added out_before.bytes out_after.bytes (refusal_line name)
  pub untaken : in_after ≡ in_before
  pub unheld : used ≡ None

-- an end that tells its bytes, which hold the scan of this filter and projection
pub record TellsScan (before : End) : Type 0 where
  pub input : Bytes
  pub told : before.bytes ≡ Some input
  pub asked : RequestedScan
  pub filter : Tree
  pub projection : Tree
  pub asks : HoldsScan input asked filter projection

-- whether a phase of this scan by these statistics breaks, and whether the first that does so breaks by this cause
abbrev pub told_breaks : {before : End} → Statistics → TellsScan before → Bool
told_breaks s told = scan_breaks (scan_by s told.asked) told.filter told.projection

abbrev pub told_breaks_by : {before : End} → Cause → Statistics → TellsScan before → Bool
told_breaks_by cause s told = scan_breaks_by cause (scan_by s told.asked) told.filter told.projection

-- the report of a scan with what the projection means at all rows at which the filter means true, whatever the statistics say
abbrev pub whole_report : RequestedScan → Tree → Tree → Bytes
whole_report a f p =
    report_text (map value_text (rows_of (scan_table a) [] f p)) (skipped_blocks a.zones [] f) (read_columns (scan_table a) (scan_reads a f p))
    (length (scan_reads a f p))

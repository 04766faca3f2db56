-- What the scan of an opened file shows of the input that asks it.
use Rattle.std.proofs.Common.{◌≡◌, ◌∙◌, sym, ap, refl, subst, arith, inl, inr, ℕ, ◌≤◌, [], ◌++◌, Option, Some, option_map, Result, Ok, Err}
use Rattle.std.specs.Prelude.{IfErr}
use Rattle.std.specs.Result.{IsErrAnd}
use Rattle.vx_dtype.specs.Types.{Bytes}
use Rattle.vx_expr.specs.Trees.{Tree}
use Rattle.vx_semantics.specs.Tables.{Table}
use Rattle.vx_io.specs.Counts.{one_more}
use Rattle.vx_wire.specs.Encodings.{is_default_kind}
use Rattle.vx_scan.specs.ErrorKinds.{ErrorKind, of_memory, of_text, of_types, of_break, of_read, kind_of, OnlyOfText}
use Rattle.vx_scan.specs.Reports.{report_view}
use Rattle.vx_scan.specs.Scanning.{IsReport, IsScanStopped}
use Rattle.vx_scan.specs.Stores.{WhereTold}
use Rattle.vx_scan.specs.Texts.{AreRefused}
use Rattle.vx_scan.specs.declared.errors.ScanError.{ScanError}
use Rattle.vx_scan.specs.declared.reports.ScanReport.{ScanReport}
use Rattle.vx_laws_file.specs.FileForms.{FileContent, Header}
use Rattle.vx_request.specs.FileRequests.{RequestedFile, file_request_of}
use Rattle.vx_request.specs.FileRequestViews.{FileRequestAnswers}
use Rattle.vx_request.specs.declared.errors.FileRequestError.{FileRequestError}
use Rattle.vx_request.specs.declared.errors.FileRequestError.TheVariants as requests
use Rattle.vx_file_open.specs.Layouts.{content_at, WhereBytes}
use Rattle.vx_file_open.specs.OpenAnswers.{IsRefusedBy, refusal_of}
use Rattle.vx_file_open.specs.declared.errors.FileError.{FileError}
use Rattle.vx_file_open.specs.declared.errors.FileError.TheVariants as opens
use Rattle.vx_file.specs.FileStates.{FileState, file_seen, held_at}
use Rattle.vx_file_scan.specs.FileScans.{IsFileScan, StopShows, reads_over}
use Rattle.vx_file_query.specs.FileEndings.{SpellsFile, HoldsContent}
use Rattle.vx_file_query.specs.FileAnswers.{IsFileReport, IsFileStopped, IsFileUnreported, kind_error, scan_error, request_error, IsReady, IsOpenError, IsUnopened}
use Rattle.vx_file_query.specs.declared.errors.FilePart.TheVariants.{Magic, Header as HeaderPart, Zones, End, Column}
use Rattle.vx_file_query.specs.declared.errors.FileScanError.{FileScanError}
use Rattle.vx_file_query.specs.declared.errors.FileScanError.TheVariants.{NoMemory, Request, BadFile, Scan}

-- what holds of the table of told bytes
told_at : (P : Table → Type 0) (h : Header) (told : Option Bytes) (bytes : Bytes) → told ≡ Some bytes → WhereTold (option_map (held_at h) told) P
    → P (held_at h bytes)
told_at P h told bytes is w = subst (λ o. WhereTold (option_map (held_at h) o) P) is w

-- what holds of them
bytes_at : (P : Bytes → Type 0) (told : Option Bytes) (bytes : Bytes) → told ≡ Some bytes → WhereBytes told P → P bytes
bytes_at P told bytes is w = subst (λ o. WhereBytes o P) is w

-- the input asks the scan of what a ready file holds
holds_ready : (input : Bytes) (a : RequestedFile) (file : FileState) → file_request_of input ≡ Ok a → IsReady a.file file
    → HoldsContent input a (content_at file.header a.file)
holds_ready input a file asked ready = record { asked = asked; opened = ready.opened.opened }

-- a scan of it that reports
pub reported_file : (input : Bytes) (a : RequestedFile) (before after : FileState) (report : ScanReport) → file_request_of input ≡ Ok a
    → IsReady a.file before → IsFileScan is_default_kind a.filter a.projection before after (Ok report) → IsFileReport input (report_view report) after
reported_file input a before after report asked ready scan = elim scan.ends [ inl none ↦ absurd none | inr own ↦ by own.0 own.1 own.2 own.3 ]
  where
    content : FileContent
    content = content_at before.header a.file

    by : (f p : Tree) → SpellsFile a f p → IsReport [] f p (file_seen before) (file_seen after) (report_view report)
        → IsFileReport input (report_view report) after
    by f p spelled own = record {
      asked = a;
      content = content;
      filter = f;
      projection = p;
      ends = (
        record { holds = holds_ready input a before asked ready; spelled = spelled; ty = (report_view report).ty; typed = own.typed },
        (bytes_at _ before.bytes a.file ready.told scan.shows f p spelled, told_at _ before.header before.bytes a.file ready.told own.unbroken),
      );
      rows = told_at _ before.header before.bytes a.file ready.told own.rows;
      skipped = own.skipped;
      zones = scan.same.zones;
      reads = own.reads.grown ∙ ap (λ reads. reads ++ own.reads.made) ready.reads
          ∙ told_at (λ table. own.reads.made ≡ _) before.header before.bytes a.file ready.told own.reads.told;
    }

-- no fault is counted where the count is none
none_counted : (before after : ℕ) → before ≡ 0 → after ≡ 0 → ¬ (one_more before ≤ after)
none_counted before after b a risen =
    let none : one_more 0 ≤ 0 = subst (λ n. one_more 0 ≤ n) a (subst (λ n. one_more n ≤ after) b risen) in
    omega (arith, none)

-- a scan of it that gives no report
pub unreported_file : (input : Bytes) (a : RequestedFile) (before after : FileState) (e : ScanError) → file_request_of input ≡ Ok a
    → IsReady a.file before → after.count ≡ 0 → IsFileScan is_default_kind a.filter a.projection before after (Err e)
    → IsFileUnreported input (scan_error e)
unreported_file input a before after e asked ready count scan = elim scan.ends [
  | inl texts ↦ unspelled (kind_of e) refl texts.1
  | inr own ↦ stopped own.0 own.1 own.2 (kind_of e) refl own.3 (bytes_at _ before.bytes a.file ready.told scan.shows own.0 own.1 own.2)
]
  where
    content : FileContent
    content = content_at before.header a.file

    holds : HoldsContent input a content
    holds = holds_ready input a before asked ready

    stops : (k : ErrorKind) → kind_of e ≡ k → IsFileStopped k input e → IsFileUnreported input (Scan e)
    stops k is h = subst (λ x. IsFileStopped x input e) (sym is) h

    unspelled : (k : ErrorKind) → kind_of e ≡ k → OnlyOfText k (AreRefused is_default_kind a.filter a.projection e)
        → IsFileUnreported input (kind_error k e)
    unspelled of_memory is h = tt
    unspelled of_text is h = stops of_text is record { asked = a; content = content; holds = holds; refused = inl h }
    unspelled of_types is h = absurd h
    unspelled (of_break cause) is h = absurd h
    unspelled of_read is h = absurd h

    stopped : (f p : Tree) → SpellsFile a f p → (k : ErrorKind) → kind_of e ≡ k → IsScanStopped k [] f p (file_seen before) (file_seen after) e
        → StopShows k before after a.file (reads_over before a.file f p) → IsFileUnreported input (kind_error k e)
    stopped f p spelled of_memory is h shows = tt
    stopped f p spelled of_text is h shows = absurd h
    stopped f p spelled of_types is h shows =
        stops of_types is record { asked = a; content = content; holds = holds; refused = inr (f, p, spelled, h.1) }
    stopped f p spelled (of_break cause) is h shows = stops (of_break cause) is record {
      asked = a;
      content = content;
      filter = f;
      projection = p;
      scan = record { holds = holds; spelled = spelled; ty = h.ty; typed = h.typed };
      so = (shows, told_at _ before.header before.bytes a.file ready.told h.first_breaks);
    }
    stopped f p spelled of_read is h shows = elim shows [
      | inl risen ↦ absurd (none_counted before.count after.count ready.count count risen)
      | inr damaged ↦ record {
        asked = a;
        content = content;
        filter = f;
        projection = p;
        scan = record { holds = holds; spelled = spelled; ty = h.ty; typed = h.typed };
        so = damaged;
      }
    ]

-- bytes that aren't opened
pub unopened_bytes : (bytes : Bytes) (why : FileError) (e : FileScanError) → IsRefusedBy bytes (refusal_of why) → IsOpenError why e → IsUnopened bytes e
unopened_bytes bytes opens.NoMemory e h is = subst (IsUnopened bytes) (sym is) tt
unopened_bytes bytes opens.ReadFault e h is = absurd is
unopened_bytes bytes opens.BadMagic e h is = subst (IsUnopened bytes) (sym is) h
unopened_bytes bytes opens.BadHeader e h is = subst (IsUnopened bytes) (sym is) h
unopened_bytes bytes (opens.BadZones z) e h is = subst (IsUnopened bytes) (sym is) (z, h)
unopened_bytes bytes opens.BadEnd e h is = subst (IsUnopened bytes) (sym is) h

-- an input that asks their scan
pub unopened_asked : (input : Bytes) (a : RequestedFile) (e : FileScanError) → file_request_of input ≡ Ok a → IsUnopened a.file e
    → IsFileUnreported input e
unopened_asked input a NoMemory asked h = tt
unopened_asked input a (Request e) asked h = absurd h
unopened_asked input a (BadFile Magic) asked h = record { asked = a; held = asked; refused = h }
unopened_asked input a (BadFile HeaderPart) asked h = record { asked = a; held = asked; refused = h }
unopened_asked input a (BadFile Zones) asked h = (h.0, record { asked = a; held = asked; refused = h.1 })
unopened_asked input a (BadFile End) asked h = record { asked = a; held = asked; refused = h }
unopened_asked input a (BadFile Column) asked h = absurd h
unopened_asked input a (Scan e) asked h = absurd h

-- an input that is no such request
pub unasked_file : (input : Bytes) (e : FileRequestError) → FileRequestAnswers (file_request_of input) (Err e)
    → IsFileUnreported input (request_error e)
unasked_file input requests.NoMemory h = tt
unasked_file input requests.InputTooLong h = h
unasked_file input requests.BadJson h = h
unasked_file input (requests.BadRequest place) h = h
unasked_file input (requests.BadHex which) h = h

-- what holds of a refusal that is answered
pub if_unreported : {T : Type 0} (input : Bytes) (e : FileScanError) (result : Result T FileScanError) → IsErrAnd result (λ x. x ≡ e)
    → IsFileUnreported input e → IfErr result (IsFileUnreported input)
if_unreported input e (Ok x) h k = absurd h
if_unreported input e (Err x) h k = subst (IsFileUnreported input) (sym h) k

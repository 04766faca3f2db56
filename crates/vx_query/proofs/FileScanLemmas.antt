-- What answers an input by the report of the scan of a block file.
use Rattle.std.proofs.Common.{◌≡◌, ◌∙◌, sym, ap, subst, map, length, Result, Ok, Err}
use Rattle.std.specs.Result.{IsErrAnd}
use Rattle.std.specs.declared.string.String.{String}
use Rattle.std.specs.declared.alloc.Global.{Global}
use Rattle.vx_dtype.specs.Types.{Bytes}
use Rattle.vx_expr.specs.Trees.{Tree}
use Rattle.vx_display.specs.ValueTexts.{value_text}
use Rattle.vx_laws_file.specs.FileForms.{FileContent}
use Rattle.vx_scan.specs.Reports.{Report}
use Rattle.vx_request.specs.FileRequests.{RequestedFile}
use Rattle.vx_file.specs.FileStates.{FileState}
use Rattle.vx_file_query.specs.FileEndings.{FileEnds, file_reported}
use Rattle.vx_file_query.specs.FileAnswers.{IsFileReport, IsFileUnreported}
use Rattle.vx_file_query.specs.declared.errors.FileScanError.{FileScanError}
use Rattle.vx_file_query.specs.declared.errors.FileScanError.TheVariants as files
use Rattle.vx_query.specs.EndingViews.{columns_read}
use Rattle.vx_query.specs.RefusalViews.{IsFileUnscanned, file_refusal}
use Rattle.vx_query.specs.Reports.{report_text}
use Rattle.vx_query.specs.Running.{held_scan, scan_report}
use Rattle.vx_query.specs.TextViews.{ReportsFile}
use Rattle.vx_query.specs.declared.refusals.Refusal.{Refusal}
use Rattle.vx_query.proofs.AnswerLemmas.{report_text_of_same}

-- an answer that is a refusal
pub file_scan_err : (input : Bytes) (r : Refusal) (result : Result (String Global) Refusal) → IsErrAnd result (λ x. x ≡ r) → IsFileUnscanned input r
    → ReportsFile input result
file_scan_err input r (Ok x) h k = absurd h
file_scan_err input r (Err x) h k = subst (IsFileUnscanned input) (sym h) k

-- an input that has no report
pub unreported_input : (input : Bytes) (e : FileScanError) → IsFileUnreported input e → IsFileUnscanned input (file_refusal e)
unreported_input input files.NoMemory h = tt
unreported_input input (files.Request e) h = h
unreported_input input (files.BadFile part) h = h
unreported_input input (files.Scan e) h = h

-- the text of one that has
abbrev pub IsReportOf : Bytes → Bytes → Type 0
IsReportOf input text =
    (a : RequestedFile) × (content : FileContent) × (f : Tree) × (p : Tree) × FileEnds input (file_reported a content f p)
    × (text ≡ scan_report (held_scan a content) f p)

pub reported_input : (input : Bytes) (report : Report) (file : FileState) (text : Bytes) → IsFileReport input report file
    → text ≡ report_text (map value_text report.rows) report.skipped (columns_read file.header.zones file.reads) (length file.reads)
    → IsReportOf input text
reported_input input report file text h told = (
  h.asked,
  h.content,
  h.filter,
  h.projection,
  h.ends,
  told ∙ report_text_of_same _ _ _ _ _ _ _ _ (ap (map value_text) h.rows) h.skipped (λ i. columns_read (h.zones i) (h.reads i)) (ap length h.reads),
)

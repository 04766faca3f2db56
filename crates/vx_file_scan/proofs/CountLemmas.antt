-- How the count of a file's source goes by the answer of a scan.
use Rattle.std.proofs.Common.{◌≡◌, ap, inl, inr, ℕ, ◌≤◌, Bool, []}
use Rattle.std.specs.Prelude.{Result, Ok, Err}
use Rattle.vx_dtype.specs.Types.{Bytes}
use Rattle.vx_expr.specs.Trees.{Tree}
use Rattle.vx_semantics.specs.Meaning.{Slots}
use Rattle.vx_wire.specs.declared.encodings.ExprEncoding.{ExprEncoding}
use Rattle.vx_scan.specs.ErrorKinds.{ErrorKind, of_memory, of_text, of_types, of_break, of_read, kind_of}
use Rattle.vx_scan.specs.Stores.{StoreSeen}
use Rattle.vx_scan.specs.Scanning.{IsScanStopped, IsScan}
use Rattle.vx_scan.specs.declared.errors.ScanError.{ScanError}
use Rattle.vx_scan.specs.declared.reports.ScanReport.{ScanReport}
use Rattle.vx_file_scan.specs.FileScans.{StopCounts, AnswerCounts}

stop_counts : (k : ErrorKind) (slots : Slots) (f p : Tree) (s t : StoreSeen) (e : ScanError) (before now : ℕ) → before ≤ now → (t.failed ≡ s.failed → now ≡ before)
    → IsScanStopped k slots f p s t e → StopCounts k before now
stop_counts of_memory slots f p s t e before now later quiet (inl h) = quiet (ap (λ (u : StoreSeen). u.failed) h)
stop_counts of_memory slots f p s t e before now later quiet (inr h) = quiet h.unfailed
stop_counts of_text slots f p s t e before now later quiet h = absurd h
stop_counts of_types slots f p s t e before now later quiet h = quiet (ap (λ (u : StoreSeen). u.failed) h.0)
stop_counts (of_break cause) slots f p s t e before now later quiet h = quiet h.unfailed
stop_counts of_read slots f p s t e before now later quiet h = later

stay_counts : (k : ErrorKind) (before now : ℕ) → now ≡ before → before ≤ now → StopCounts k before now
stay_counts of_memory before now same later = same
stay_counts of_text before now same later = same
stay_counts of_types before now same later = same
stay_counts (of_break cause) before now same later = same
stay_counts of_read before now same later = later

pub answer_counts : (holds : ExprEncoding → Bool) (ft pt : Bytes) (s t : StoreSeen) (answer : Result ScanReport ScanError) (before now : ℕ) → before ≤ now
    → (t.failed ≡ s.failed → now ≡ before) → IsScan holds ft pt s t answer → AnswerCounts answer before now
answer_counts holds ft pt s t (Ok report) before now later quiet (inl h) = absurd h
answer_counts holds ft pt s t (Err e) before now later quiet (inl h) = stay_counts (kind_of e) before now (quiet (ap (λ (u : StoreSeen). u.failed) h.0)) later
answer_counts holds ft pt s t (Ok report) before now later quiet (inr h) = quiet h.3.unfailed
answer_counts holds ft pt s t (Err e) before now later quiet (inr h) = stop_counts (kind_of e) [] h.0 h.1 s t e before now later quiet h.3

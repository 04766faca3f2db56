-- How the scan of a block file ends, beside what holds of any store: which damage it met, or that it met none.
use Rattle.std.specs.Prelude.{◌≡◌, ◌⊎◌, ℕ, ◌≤◌, Bool, List, [], ◌∷◌, Option, Some, Result, Ok, Err}
use Rattle.std.specs.List.{AllByRecursion}
use Rattle.vx_dtype.specs.Types.{Bytes}
use Rattle.vx_expr.specs.Trees.{Tree}
use Rattle.vx_semantics.specs.Scans.{reads_to_break}
use Rattle.vx_io.specs.Counts.{one_more}
use Rattle.vx_wire.specs.declared.encodings.ExprEncoding.{ExprEncoding}
use Rattle.vx_scan.specs.ErrorKinds.{ErrorKind, of_break, of_read, kind_of}
use Rattle.vx_scan.specs.Stores.{Read, IsSameStore}
use Rattle.vx_scan.specs.Texts.{SpellBoth}
use Rattle.vx_scan.specs.Scanning.{IsScan}
use Rattle.vx_scan.specs.declared.errors.ScanError.{ScanError}
use Rattle.vx_scan.specs.declared.reports.ScanReport.{ScanReport}
use Rattle.vx_file_open.specs.Layouts.{WhereBytes}
use Rattle.vx_file.specs.FileStates.{FileState, file_seen, held_at, IsSpoilt}

-- some of these reads is of a damaged pair
abbrev pub SomeSpoilt : FileState → Bytes → List Read → Type 0
SomeSpoilt s bytes reads = ¬ (AllByRecursion (λ read. ¬ (IsSpoilt s.header bytes read)) reads)

-- the reads that a scan makes of the table that a file with these bytes holds, up to the end of the first phase that breaks
abbrev pub reads_over : FileState → Bytes → Tree → Tree → List Read
reads_over s bytes filter_expr projection = reads_to_break (held_at s.header bytes) s.header.zones [] filter_expr projection

-- what an error of a kind shows of the reads: a break, that none of them is damaged; a read that failed, that the source counted a fault or one is damaged
abbrev pub StopShows : ErrorKind → FileState → FileState → Bytes → List Read → Type 0
StopShows (of_break cause) before after bytes reads = ¬ (SomeSpoilt before bytes reads)
StopShows of_read before after bytes reads = (one_more before.count ≤ after.count) ⊎ SomeSpoilt before bytes reads
StopShows _ before after bytes reads = Unit {0}

-- what an answer shows of the reads: a report, that none of them is damaged
abbrev pub AnswerShows : Result ScanReport ScanError → FileState → FileState → Bytes → List Read → Type 0
AnswerShows (Ok report) before after bytes reads = ¬ (SomeSpoilt before bytes reads)
AnswerShows (Err e) before after bytes reads = StopShows (kind_of e) before after bytes reads

-- how the source's count went from one number to another by an error of a kind: it stays, but where a read failed
abbrev pub StopCounts : ErrorKind → ℕ → ℕ → Type 0
StopCounts of_read before now = before ≤ now
StopCounts _ before now = now ≡ before

-- and by an answer
abbrev pub AnswerCounts : Result ScanReport ScanError → ℕ → ℕ → Type 0
AnswerCounts (Ok report) before now = now ≡ before
AnswerCounts (Err e) before now = StopCounts (kind_of e) before now

-- no read failed by damage, or the one that failed last did and no other
abbrev pub DamagedOnce : Option Read → List Read → Type 0
DamagedOnce failed damaged = (damaged ≡ []) ⊎ ((read : Read) × (failed ≡ Some read) × (damaged ≡ read ∷ []))

-- how the scan of a file ends by two texts: as that of any store; and where the bytes are told and the texts spell expressions it shows whether one of the
-- reads is of a damaged pair
pub record IsFileScan (holds : ExprEncoding → Bool) (filter_text projection_text : Bytes) (before after : FileState)
    (answer : Result ScanReport ScanError) : Type 0 where
  pub header : after.header ≡ before.header
  pub bytes : after.bytes ≡ before.bytes
  pub counts : AnswerCounts answer before.count after.count
  pub damaged : DamagedOnce after.failed after.damaged
  pub same : IsSameStore (file_seen before) (file_seen after)
  pub ends : IsScan holds filter_text projection_text (file_seen before) (file_seen after) answer
  pub shows : WhereBytes before.bytes
      (λ bytes. (f p : Tree) → SpellBoth holds filter_text projection_text f p → AnswerShows answer before after bytes (reads_over before bytes f p))

-- What follows from how scans of block files end.
use Rattle.std.specs.Prelude.{◌≡◌, ◌≢◌, ◌<◌, Bool, true, false, [], Some, Result, Ok, Err}
use Rattle.vx_dtype.specs.Types.{Bytes, Ty}
use Rattle.vx_expr.specs.Trees.{Tree}
use Rattle.vx_semantics.specs.Tables.{row_type}
use Rattle.vx_semantics.specs.Honest.{IsHonest}
use Rattle.vx_semantics.specs.Scans.{rows_of, some_phase_breaks}
use Rattle.vx_io.specs.Counts.{one_more}
use Rattle.vx_wire.specs.declared.encodings.ExprEncoding.{ExprEncoding}
use Rattle.vx_laws_file.specs.HeldTables.{held_blocks}
use Rattle.vx_scan.specs.Stores.{IsSameStore}
use Rattle.vx_scan.specs.StoreViews.{StoreState, store_seen}
use Rattle.vx_scan.specs.StoreAnswers.{new_store}
use Rattle.vx_scan.specs.Texts.{SpellBoth}
use Rattle.vx_scan.specs.Reports.{report_view}
use Rattle.vx_scan.specs.Scanning.{scan_type, IsScan}
use Rattle.vx_scan.specs.ScanLaws.{RefusesBy, ReportsUnlessNoMemory, BreaksUnlessNoMemory}
use Rattle.vx_scan.specs.declared.errors.ScanError.{ScanError}
use Rattle.vx_scan.specs.declared.errors.ScanError.TheVariants as errors
use Rattle.vx_scan.specs.declared.reports.ScanReport.{ScanReport}
use Rattle.vx_file_open.specs.Layouts.{content_at}
use Rattle.vx_file.specs.FileStates.{FileState, held_at}
use Rattle.vx_file_scan.specs.FirstFailures.{IsUnread}
use Rattle.vx_file_scan.specs.FileScans.{SomeSpoilt, reads_over, IsFileScan}
use Rattle.vx_file_scan.specs.TableScans.{SayTheSame}

-- the scan of a file whose bytes are told, by texts that spell two expressions
pub record IsToldScan (holds : ExprEncoding → Bool) (filter_text projection_text bytes : Bytes) (filter_expr projection : Tree) (before after : FileState)
    (answer : Result ScanReport ScanError) : Type 0 where
  pub scanned : IsFileScan holds filter_text projection_text before after answer
  pub told : before.bytes ≡ Some bytes
  pub spelled : SpellBoth holds filter_text projection_text filter_expr projection

-- one of the reads that a scan of the file makes, up to the end of the first phase that breaks, is of a damaged pair
abbrev pub MeetsDamage : FileState → Bytes → Tree → Tree → Type 0
MeetsDamage s bytes filter_expr projection = SomeSpoilt s bytes (reads_over s bytes filter_expr projection)

-- the expressions are typed, as the columns of the file and its filter want it
abbrev pub AreTypedOver : FileState → Tree → Tree → Type 0
AreTypedOver s filter_expr projection = (u : Ty) × (scan_type (row_type s.header.zones.columns) [] filter_expr projection ≡ Ok u)

-- a read fails over a source that counted no fault only where one of the reads is of a damaged pair
abbrev pub FaultsShowDamage : Type 0
FaultsShowDamage =
    (holds : ExprEncoding → Bool) (filter_text projection_text bytes : Bytes) (filter_expr projection : Tree) (before after : FileState)
    (answer : Result ScanReport ScanError) → IsToldScan holds filter_text projection_text bytes filter_expr projection before after answer
    → after.count < one_more before.count → answer ≡ Err errors.StoreFault → MeetsDamage before bytes filter_expr projection

-- where typed expressions meet damage, a read fails, or there was no memory to come to it
abbrev pub DamageIsAFault : Type 0
DamageIsAFault =
    (holds : ExprEncoding → Bool) (filter_text projection_text bytes : Bytes) (filter_expr projection : Tree) (before after : FileState)
    (answer : Result ScanReport ScanError) → IsToldScan holds filter_text projection_text bytes filter_expr projection before after answer
    → AreTypedOver before filter_expr projection → MeetsDamage before bytes filter_expr projection → RefusesBy errors.StoreFault answer

-- where they meet none and the source counted no fault, there is a report where no phase breaks, and a break where one does, or there was no memory
abbrev pub UndamagedScansReport : Type 0
UndamagedScansReport =
    (holds : ExprEncoding → Bool) (filter_text projection_text bytes : Bytes) (filter_expr projection : Tree) (before after : FileState)
    (answer : Result ScanReport ScanError) → IsToldScan holds filter_text projection_text bytes filter_expr projection before after answer
    → AreTypedOver before filter_expr projection → ¬ (MeetsDamage before bytes filter_expr projection) → after.count < one_more before.count
    → some_phase_breaks (held_at before.header bytes) before.header.zones [] filter_expr projection ≡ false → ReportsUnlessNoMemory answer

abbrev pub UndamagedScansBreak : Type 0
UndamagedScansBreak =
    (holds : ExprEncoding → Bool) (filter_text projection_text bytes : Bytes) (filter_expr projection : Tree) (before after : FileState)
    (answer : Result ScanReport ScanError) → IsToldScan holds filter_text projection_text bytes filter_expr projection before after answer
    → AreTypedOver before filter_expr projection → ¬ (MeetsDamage before bytes filter_expr projection) → after.count < one_more before.count
    → some_phase_breaks (held_at before.header bytes) before.header.zones [] filter_expr projection ≡ true → BreaksUnlessNoMemory answer

-- where the statistics of a file are honest for the table that it holds, the rows of a report are those of all its blocks, the skipped ones too
abbrev pub HonestFileScansAreWhole : Type 0
HonestFileScansAreWhole =
    (holds : ExprEncoding → Bool) (filter_text projection_text bytes : Bytes) (filter_expr projection : Tree) (before after : FileState)
    (report : ScanReport) → IsToldScan holds filter_text projection_text bytes filter_expr projection before after (Ok report)
    → IsHonest before.header.zones (held_at before.header bytes)
    → (report_view report).rows ≡ rows_of (held_at before.header bytes) [] filter_expr projection

-- whatever two expressions the texts spell, they meet no damage
abbrev pub MeetNoDamage : (ExprEncoding → Bool) → Bytes → Bytes → FileState → Bytes → Type 0
MeetNoDamage holds filter_text projection_text s bytes =
    (filter_expr projection : Tree) → SpellBoth holds filter_text projection_text filter_expr projection → ¬ (MeetsDamage s bytes filter_expr projection)

-- a store in memory of the table that a file holds, which wasn't read yet and fails at no call
abbrev pub memory_of : FileState → Bytes → StoreState
memory_of s bytes = new_store s.header.zones (held_blocks (content_at s.header bytes)) []

-- the scan of a file that wasn't read yet, which meets no damage and over whose source no fault was counted, ends as that of the store in memory of the
-- table that the file holds: the answers say the same, and the same reads were made, where neither is want of memory
pub record EndsAsInMemory (after : FileState) (left : StoreState) (answer reply : Result ScanReport ScanError) : Type 0 where
  pub answers : SayTheSame answer reply
  pub reads : after.reads ≡ left.reads

abbrev pub UndamagedScansEndAsInMemory : Type 0
UndamagedScansEndAsInMemory =
    (holds : ExprEncoding → Bool) (filter_text projection_text bytes : Bytes) (before after : FileState) (left : StoreState)
    (answer reply : Result ScanReport ScanError) → IsUnread before → before.bytes ≡ Some bytes
    → IsFileScan holds filter_text projection_text before after answer → MeetNoDamage holds filter_text projection_text before bytes
    → after.count < one_more before.count → IsSameStore (store_seen (memory_of before bytes)) (store_seen left)
    → IsScan holds filter_text projection_text (store_seen (memory_of before bytes)) (store_seen left) reply
    → answer ≢ Err errors.NoMemory → reply ≢ Err errors.NoMemory → EndsAsInMemory after left answer reply

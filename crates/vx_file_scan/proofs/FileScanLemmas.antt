-- What the scan of a block file shows of damage, by what it left.
use Rattle.std.proofs.Common.{◌≡◌, refl, sym, ap, ◌∙◌, subst, ◌⊎◌, inl, inr, ◌≤◌, Bool, false, cond, Option, Some, None, option_map, List, [], ◌∷◌, ◌++◌}
use Rattle.std.specs.Prelude.{Result, Ok, Err}
use Rattle.std.specs.List.{AllByRecursion, list_any}
use Rattle.std.proofs.lemmas.Bool.{or_parts}
use Rattle.vx_dtype.specs.Types.{Bytes, Ty}
use Rattle.vx_expr.specs.Trees.{Tree}
use Rattle.vx_semantics.specs.Meaning.{Slots}
use Rattle.vx_semantics.specs.Tables.{Table, Zones, row_type}
use Rattle.vx_semantics.specs.Scans.{Phase, phase_breaks, phases_to_break, phase_reads, phases_of, reads_of, reads_to_break, some_phase_breaks}
use Rattle.vx_io.specs.Counts.{one_more}
use Rattle.vx_wire.specs.declared.encodings.ExprEncoding.{ExprEncoding}
use Rattle.vx_laws_file.specs.FileForms.{Header}
use Rattle.vx_laws_file.proofs.HeldLemmas.{read_is_not_damaged}
use Rattle.vx_scan.specs.ErrorKinds.{ErrorKind, of_memory, of_text, of_types, of_break, of_read, kind_of}
use Rattle.vx_scan.specs.Stores.{Read, WhereTold, IsSameStore}
use Rattle.vx_scan.specs.Texts.{SpellBoth}
use Rattle.vx_scan.specs.Scanning.{IsScanStopped, IsScanOf, IsScan}
use Rattle.vx_scan.specs.declared.errors.ScanError.{ScanError}
use Rattle.vx_scan.specs.declared.reports.ScanReport.{ScanReport}
use Rattle.vx_scan.proofs.TextLemmas.{texts_so}
use Rattle.vx_file_open.specs.Layouts.{content_at, WhereBytes}
use Rattle.vx_file.specs.FileStates.{FileState, file_seen, held_at, IsSound, IsSpoilt, IsKept, FailsByFault, FailsByDamage}
use Rattle.vx_file_scan.specs.FirstFailures.{IsUnread, IsReadToFailure}
use Rattle.vx_file_scan.specs.FileScans.{SomeSpoilt, reads_over, StopShows, AnswerShows, IsFileScan}
use Rattle.vx_file_scan.proofs.CountLemmas.{answer_counts}
use Rattle.vx_file_scan.proofs.FailureLemmas.{quiet_so, cause_so, left_at_failure}

-- ---- damaged reads

-- sound reads aren't damaged
sound_unspoilt : (h : Header) (bytes : Bytes) (reads : List Read) → AllByRecursion (IsSound h bytes) reads
    → AllByRecursion (λ read. ¬ (IsSpoilt h bytes read)) reads
sound_unspoilt h bytes [] sound = tt
sound_unspoilt h bytes (read ∷ reads) sound = (
  λ here. read_is_not_damaged (content_at h bytes) read.0 read.1 sound.0.0 sound.0.1 here,
  sound_unspoilt h bytes reads sound.1,
)

pub none_spoilt : (s : FileState) (bytes : Bytes) (reads : List Read) → AllByRecursion (IsSound s.header bytes) reads → ¬ (SomeSpoilt s bytes reads)
none_spoilt s bytes reads sound some = some (sound_unspoilt s.header bytes reads sound)

-- one of some items for each of which a fact holds
one_of : (P : Read → Type 0) (before after : List Read) (read : Read) → AllByRecursion P (before ++ read ∷ after) → P read
one_of P [] after read all = all.0
one_of P (r ∷ before) after read all = one_of P before after read all.1

-- one that is damaged is one of those that it stands among
pub spoilt_among : (s : FileState) (bytes : Bytes) (before after : List Read) (read : Read) → IsSpoilt s.header bytes read
    → SomeSpoilt s bytes (before ++ read ∷ after)
spoilt_among s bytes before after read here none = one_of (λ r. ¬ (IsSpoilt s.header bytes r)) before after read none here

-- ---- the reads up to the first phase that breaks

-- where none breaks they are all
all_phases : (t : Ty) (slots : Slots) (phases : List Phase) → list_any (phase_breaks t slots) phases ≡ false → phases_to_break t slots phases ≡ phases
all_phases t slots [] h = refl
all_phases t slots (phase ∷ phases) h =
    let parts = or_parts (phase_breaks t slots phase) (list_any (phase_breaks t slots) phases) h in
    ap (λ (b : Bool). phase ∷ cond b [] (phases_to_break t slots phases)) parts.0 ∙ ap (λ (rest : List Phase). phase ∷ rest) (all_phases t slots phases parts.1)

pub all_reads : (table : Table) (zones : Zones) (slots : Slots) (f p : Tree) → some_phase_breaks table zones slots f p ≡ false
    → reads_to_break table zones slots f p ≡ reads_of table zones slots f p
all_reads table zones slots f p h = ap phase_reads (all_phases (row_type table.columns) slots (phases_of table zones slots f p) h)

-- ---- what is told

pub told_here : (held : Option Table) (table : Table) (P : Table → Type 0) → held ≡ Some table → WhereTold held P → P table
told_here held table P e h = subst (λ (o : Option Table). WhereTold o P) e h

pub bytes_here : (told : Option Bytes) (bytes : Bytes) (P : Bytes → Type 0) → told ≡ Some bytes → WhereBytes told P → P bytes
bytes_here told bytes P e h = subst (λ (o : Option Bytes). WhereBytes o P) e h

-- the table that a file tells
pub file_held : (s : FileState) (bytes : Bytes) → s.bytes ≡ Some bytes → (file_seen s).held ≡ Some (held_at s.header bytes)
file_held s bytes e = ap (option_map (held_at s.header)) e

-- ---- what is known of a file that a scan left

pub record IsLeft (s t : FileState) (bytes : Bytes) : Type 0 where
  pub unread : s.reads ≡ []
  pub sound : AllByRecursion (IsSound s.header bytes) t.reads
  pub cause : (read : Read) → t.failed ≡ Some read → FailsByFault s t ⊎ FailsByDamage s t read

-- the reads that were made aren't damaged
made_sound : (s t : FileState) (bytes : Bytes) (made reads : List Read) → IsLeft s t bytes → t.reads ≡ s.reads ++ made → made ≡ reads
    → ¬ (SomeSpoilt s bytes reads)
made_sound s t bytes made reads left grown e =
    none_spoilt s bytes reads
    (subst (AllByRecursion (IsSound s.header bytes)) (grown ∙ ap (λ (rs : List Read). rs ++ made) left.unread ∙ e) left.sound)

-- a read that failed
failed_shows : (s t : FileState) (bytes : Bytes) (made : List Read) (read : Read) (reads : List Read) → s.bytes ≡ Some bytes → IsLeft s t bytes → t.failed ≡ Some read
    → (rest : List Read) × (reads ≡ made ++ (read ∷ rest)) → (one_more s.count ≤ t.count) ⊎ SomeSpoilt s bytes reads
failed_shows s t bytes made read reads told left failed next = by (left.cause read failed)
  where
    by : FailsByFault s t ⊎ FailsByDamage s t read → (one_more s.count ≤ t.count) ⊎ SomeSpoilt s bytes reads
    by (inl fault) = inl fault.risen
    by (inr damage) =
        inr (subst (SomeSpoilt s bytes) (sym next.1)
        (spoilt_among s bytes made next.0 read (bytes_here s.bytes bytes (λ b. IsSpoilt s.header b read) told damage.spoilt)))

-- what a scan of two expressions shows by its end
stop_shows : (k : ErrorKind) (s t : FileState) (bytes : Bytes) (f p : Tree) (e : ScanError) → s.bytes ≡ Some bytes → IsLeft s t bytes
    → IsScanStopped k [] f p (file_seen s) (file_seen t) e → StopShows k s t bytes (reads_over s bytes f p)
stop_shows of_memory s t bytes f p e told left h = tt
stop_shows of_text s t bytes f p e told left h = tt
stop_shows of_types s t bytes f p e told left h = tt
stop_shows (of_break cause) s t bytes f p e told left h =
    made_sound s t bytes h.reads.made (reads_over s bytes f p) left h.reads.grown
    (told_here (file_seen s).held (held_at s.header bytes) (λ table. h.reads.made ≡ reads_to_break table s.header.zones [] f p) (file_held s bytes told) h.reads.told)
stop_shows of_read s t bytes f p e told left h =
    failed_shows s t bytes h.reads.made h.read (reads_over s bytes f p) told left h.failed
    (told_here (file_seen s).held (held_at s.header bytes)
    (λ table. (rest : List Read) × (reads_to_break table s.header.zones [] f p ≡ h.reads.made ++ (h.read ∷ rest))) (file_held s bytes told) h.reads.told)

answer_shows : (s t : FileState) (bytes : Bytes) (f p : Tree) (answer : Result ScanReport ScanError) → s.bytes ≡ Some bytes → IsLeft s t bytes
    → IsScanOf [] f p (file_seen s) (file_seen t) answer → AnswerShows answer s t bytes (reads_over s bytes f p)
answer_shows s t bytes f p (Ok report) told left h =
    let table = held_at s.header bytes in
    let held = file_held s bytes told in
    let unbroken = told_here (file_seen s).held table (λ table. some_phase_breaks table s.header.zones [] f p ≡ false) held h.unbroken in
    let all = told_here (file_seen s).held table (λ table. h.reads.made ≡ reads_of table s.header.zones [] f p) held h.reads.told in
    made_sound s t bytes h.reads.made (reads_over s bytes f p) left h.reads.grown (all ∙ sym (all_reads table s.header.zones [] f p unbroken))
answer_shows s t bytes f p (Err e) told left h = stop_shows (kind_of e) s t bytes f p e told left h

-- ---- the scan

-- what the file that was left shows where its bytes are told
left_shows : (holds : ExprEncoding → Bool) (ft pt : Bytes) (s t : FileState) (answer : Result ScanReport ScanError) → IsUnread s → IsReadToFailure s t
    → IsScan holds ft pt (file_seen s) (file_seen t) answer → WhereBytes t.bytes (IsKept t) → (told : Option Bytes) → s.bytes ≡ told
    → WhereBytes told (λ bytes. (f p : Tree) → SpellBoth holds ft pt f p → AnswerShows answer s t bytes (reads_over s bytes f p))
left_shows holds ft pt s t answer unread moves ends kept None e = tt
left_shows holds ft pt s t answer unread moves ends kept (Some bytes) e = λ f p spelled.
    let same = moves.later.same in
    let known : IsKept t bytes = bytes_here t.bytes bytes (IsKept t) (same.bytes ∙ e) kept in
    let left : IsLeft s t bytes = record {
      unread = unread.reads;
      sound = subst (λ (h : Header). AllByRecursion (IsSound h bytes) t.reads) same.header known.sound;
      cause = cause_so s t unread moves;
    } in
    answer_shows s t bytes f p answer e left (texts_so holds ft pt f p (file_seen s) (file_seen t) answer spelled ends)

pub file_scanned : (holds : ExprEncoding → Bool) (ft pt : Bytes) (s t : FileState) (answer : Result ScanReport ScanError) → IsUnread s → IsReadToFailure s t
    → IsSameStore (file_seen s) (file_seen t) → IsScan holds ft pt (file_seen s) (file_seen t) answer → WhereBytes t.bytes (IsKept t)
    → IsFileScan holds ft pt s t answer
file_scanned holds ft pt s t answer unread moves same ends kept = record {
  header = moves.later.same.header;
  bytes = moves.later.same.bytes;
  counts = answer_counts holds ft pt (file_seen s) (file_seen t) answer s.count t.count moves.later.same.later (quiet_so s t unread moves) ends;
  damaged = (left_at_failure s t unread moves).damaged;
  same = same;
  ends = ends;
  shows = left_shows holds ft pt s t answer unread moves ends kept s.bytes refl;
}

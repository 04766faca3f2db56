-- What follows from how scans of block files end.
use Rattle.std.proofs.Common.{◌≡◌, ◌≢◌, refl, sym, ap, ◌∙◌, subst, ◌⊎◌, inl, inr, ℕ, ◌<◌, ◌≤◌, Bool, true, false, Some, List, [], ◌++◌, arith}
use Rattle.std.specs.Prelude.{Result, Ok, Err}
use Rattle.std.proofs.lemmas.Bool.{both_ways}
use Rattle.vx_dtype.specs.Types.{Bytes, Ty}
use Rattle.vx_expr.specs.Trees.{Tree}
use Rattle.vx_semantics.specs.Tables.{row_type}
use Rattle.vx_semantics.specs.Scans.{some_phase_breaks}
use Rattle.vx_io.specs.Counts.{one_more}
use Rattle.vx_wire.specs.declared.encodings.ExprEncoding.{ExprEncoding}
use Rattle.vx_scan.specs.ErrorKinds.{ErrorKind, of_memory, of_text, of_types, of_break, of_read, kind_of, OnlyOfMemory, OnlyOfBreaks}
use Rattle.vx_scan.specs.Stores.{Read, StoreSeen, IsSameStore}
use Rattle.vx_scan.specs.StoreViews.{StoreState, store_seen}
use Rattle.vx_scan.specs.Texts.{SpellBoth}
use Rattle.vx_scan.specs.Scanning.{scan_type, IsScanStopped, IsScanOf, IsUnspelled, IsScan}
use Rattle.vx_scan.specs.ScanLaws.{RefusesBy}
use Rattle.vx_scan.specs.declared.errors.ScanError.{ScanError}
use Rattle.vx_scan.specs.declared.errors.ScanError.TheVariants as errors
use Rattle.vx_scan.specs.declared.reports.ScanReport.{ScanReport}
use Rattle.vx_scan.proofs.KindLemmas.{memory_alone}
use Rattle.vx_scan.proofs.TextLemmas.{texts_so}
use Rattle.vx_scan.proofs.LawLemmas.{honest_texts_so}
use Rattle.vx_file.specs.FileStates.{FileState, file_seen, held_at}
use Rattle.vx_file_scan.specs.FileScans.{reads_over, StopShows, AnswerShows, IsFileScan}
use Rattle.vx_file_scan.specs.TableScans.{IsOfTable}
use Rattle.vx_file_scan.specs.FileScanLaws.{IsToldScan, MeetsDamage, AreTypedOver, MeetNoDamage, memory_of}
use Rattle.vx_file_scan.specs.FileScanLaws.{FaultsShowDamage, DamageIsAFault, UndamagedScansReport, UndamagedScansBreak, UndamagedScansEndAsInMemory}
use Rattle.vx_file_scan.specs.FileScanLaws.{HonestFileScansAreWhole}
use Rattle.vx_file_scan.proofs.FileScanLemmas.{bytes_here, file_held, told_here}
use Rattle.vx_file_scan.proofs.TableScanLemmas.{stop_says, scans_agree}

-- what an answer shows, and how the scan of the two expressions ended
shown : (holds : ExprEncoding → Bool) (ft pt bytes : Bytes) (f p : Tree) (s t : FileState) (answer : Result ScanReport ScanError)
    → IsToldScan holds ft pt bytes f p s t answer → AnswerShows answer s t bytes (reads_over s bytes f p)
shown holds ft pt bytes f p s t answer h =
    bytes_here s.bytes bytes
    (λ bytes. (f p : Tree) → SpellBoth holds ft pt f p → AnswerShows answer s t bytes (reads_over s bytes f p))
    h.told h.scanned.shows f p h.spelled

ended : (holds : ExprEncoding → Bool) (ft pt bytes : Bytes) (f p : Tree) (s t : FileState) (answer : Result ScanReport ScanError)
    → IsToldScan holds ft pt bytes f p s t answer → IsScanOf [] f p (file_seen s) (file_seen t) answer
ended holds ft pt bytes f p s t answer h = texts_so holds ft pt f p (file_seen s) (file_seen t) answer h.spelled h.scanned.ends

not_risen : (before now : ℕ) → now < one_more before → one_more before ≤ now → ⊥
not_risen before now h k = omega (arith, h, k)

-- ---- damage and faults

fault_is_damage : (before now : ℕ) (Spoilt : Type 0) → now < one_more before → (one_more before ≤ now) ⊎ Spoilt → Spoilt
fault_is_damage before now Spoilt quiet (inl risen) = absurd (not_risen before now quiet risen)
fault_is_damage before now Spoilt quiet (inr spoilt) = spoilt

pub faults_so : FaultsShowDamage
faults_so holds ft pt bytes f p s t answer h quiet fault =
    fault_is_damage s.count t.count (MeetsDamage s bytes f p) quiet
    (subst (λ (r : Result ScanReport ScanError). AnswerShows r s t bytes (reads_over s bytes f p)) fault (shown holds ft pt bytes f p s t answer h))

-- a read that failed is one error
read_alone : (e : ScanError) → kind_of e ≡ of_read → e ≡ errors.StoreFault
read_alone errors.StoreFault h = refl
read_alone _ h = let no : ⊥ = cc in absurd no

never_both : (a : Result Ty ScanError) (u : Ty) (e : ScanError) → a ≡ Ok u → a ≡ Err e → ⊥
never_both (Ok w) u e h k = absurd cc
never_both (Err c) u e h k = absurd cc

pub damage_so : DamageIsAFault
damage_so holds ft pt bytes f p s t (Ok report) h typed spoilt = shown holds ft pt bytes f p s t (Ok report) h spoilt
damage_so holds ft pt bytes f p s t (Err e) h typed spoilt =
    by (kind_of e) refl (ended holds ft pt bytes f p s t (Err e) h) (shown holds ft pt bytes f p s t (Err e) h)
  where
    by : (k : ErrorKind) → kind_of e ≡ k → IsScanStopped k [] f p (file_seen s) (file_seen t) e → StopShows k s t bytes (reads_over s bytes f p)
        → RefusesBy errors.StoreFault (Err e)
    by of_memory same x shows = inr (memory_alone e same)
    by of_text same x shows = absurd x
    by of_types same x shows = absurd (never_both (scan_type (row_type s.header.zones.columns) [] f p) typed.0 e typed.1 x.1)
    by (of_break cause) same x shows = absurd (shows spoilt)
    by of_read same x shows = inl (read_alone e same)

-- ---- no damage

-- a scan of typed expressions that meets no damage and over whose source no fault was counted doesn't end at a read that failed
by_undamaged : (s t : FileState) (bytes : Bytes) (f p : Tree) (Gives : ErrorKind → Type 0) → s.bytes ≡ Some bytes → AreTypedOver s f p → ¬ (MeetsDamage s bytes f p)
    → t.count < one_more s.count → (some_phase_breaks (held_at s.header bytes) s.header.zones [] f p ≡ true → (c : _) → Gives (of_break c)) → Gives of_memory
    → (k : ErrorKind) (e : ScanError) → IsScanStopped k [] f p (file_seen s) (file_seen t) e → StopShows k s t bytes (reads_over s bytes f p) → Gives k
by_undamaged s t bytes f p Gives told typed none quiet broke memory of_memory e x shows = memory
by_undamaged s t bytes f p Gives told typed none quiet broke memory of_text e x shows = absurd x
by_undamaged s t bytes f p Gives told typed none quiet broke memory of_types e x shows =
    absurd (never_both (scan_type (row_type s.header.zones.columns) [] f p) typed.0 e typed.1 x.1)
by_undamaged s t bytes f p Gives told typed none quiet broke memory (of_break cause) e x shows =
    let stop = stop_says (of_break cause) (held_at s.header bytes) [] f p (file_seen s) (file_seen t) e (file_held s bytes told) tt x in
    broke stop.end.1 cause
by_undamaged s t bytes f p Gives told typed none quiet broke memory of_read e x shows =
    absurd (none (fault_is_damage s.count t.count (MeetsDamage s bytes f p) quiet shows))

pub reports_so : UndamagedScansReport
reports_so holds ft pt bytes f p s t (Ok report) h typed none quiet unbroken = tt
reports_so holds ft pt bytes f p s t (Err e) h typed none quiet unbroken =
    by_undamaged s t bytes f p OnlyOfMemory h.told typed none quiet
    (λ broken c. absurd (both_ways (some_phase_breaks (held_at s.header bytes) s.header.zones [] f p) unbroken broken)) tt
    (kind_of e) e (ended holds ft pt bytes f p s t (Err e) h) (shown holds ft pt bytes f p s t (Err e) h)

pub breaks_so : UndamagedScansBreak
breaks_so holds ft pt bytes f p s t (Ok report) h typed none quiet broken =
    let x = ended holds ft pt bytes f p s t (Ok report) h in
    both_ways (some_phase_breaks (held_at s.header bytes) s.header.zones [] f p)
    (told_here (file_seen s).held (held_at s.header bytes) (λ table. some_phase_breaks table s.header.zones [] f p ≡ false) (file_held s bytes h.told) x.unbroken)
    broken
breaks_so holds ft pt bytes f p s t (Err e) h typed none quiet broken =
    by_undamaged s t bytes f p OnlyOfBreaks h.told typed none quiet (λ broken c. tt) tt (kind_of e) e
    (ended holds ft pt bytes f p s t (Err e) h) (shown holds ft pt bytes f p s t (Err e) h)

-- ---- honest statistics

pub honest_so : HonestFileScansAreWhole
honest_so holds ft pt bytes f p s t report h honest =
    honest_texts_so holds ft pt f p (file_seen s) (file_seen t) report (held_at s.header bytes) h.spelled h.scanned.ends (file_held s bytes h.told) honest

-- ---- as in memory

-- an answer that is neither want of memory nor a read that failed
of_table : (answer : Result ScanReport ScanError) → answer ≢ Err errors.NoMemory → answer ≢ Err errors.StoreFault → IsOfTable answer
of_table (Ok report) memory fault = tt
of_table (Err errors.NoMemory) memory fault = absurd (memory refl)
of_table (Err errors.StoreFault) memory fault = absurd (fault refl)
of_table (Err _) memory fault = tt

-- texts that aren't spelled meet no read
unspelled_reads : (holds : ExprEncoding → Bool) (ft pt : Bytes) (s t : StoreSeen) → ¬ (IsUnspelled holds ft pt s t (Err errors.StoreFault))
unspelled_reads holds ft pt s t h = h.1

-- no read of the file failed
file_unfailed : (holds : ExprEncoding → Bool) (ft pt bytes : Bytes) (s t : FileState) → s.bytes ≡ Some bytes → MeetNoDamage holds ft pt s bytes
    → t.count < one_more s.count → IsFileScan holds ft pt s t (Err errors.StoreFault)
    → IsScan holds ft pt (file_seen s) (file_seen t) (Err errors.StoreFault) → ⊥
file_unfailed holds ft pt bytes s t told none quiet h (inl x) = unspelled_reads holds ft pt (file_seen s) (file_seen t) x
file_unfailed holds ft pt bytes s t told none quiet h (inr x) =
    none x.0 x.1 x.2
    (faults_so holds ft pt bytes x.0 x.1 s t (Err errors.StoreFault) (record { scanned = h; told = told; spelled = x.2 }) quiet refl)

-- nor one of the store in memory
memory_unfailed : (holds : ExprEncoding → Bool) (ft pt bytes : Bytes) (s : FileState) (left : StoreState)
    → IsSameStore (store_seen (memory_of s bytes)) (store_seen left)
    → IsScan holds ft pt (store_seen (memory_of s bytes)) (store_seen left) (Err errors.StoreFault) → ⊥
memory_unfailed holds ft pt bytes s left same (inl x) = unspelled_reads holds ft pt (store_seen (memory_of s bytes)) (store_seen left) x
memory_unfailed holds ft pt bytes s left same (inr x) = never_one left.faults (same.quiet refl) x.3.risen
  where
    never_one : (n : ℕ) → n ≡ 0 → one_more 0 ≤ n → ⊥
    never_one n none risen = omega (arith, none, risen)

pub as_in_memory : UndamagedScansEndAsInMemory
as_in_memory holds ft pt bytes s t left answer reply unread told h none quiet same scanned some too =
    let held : (store_seen (memory_of s bytes)).held ≡ Some (held_at s.header bytes) = refl in
    let one : IsOfTable answer = of_table answer some
    (λ fault. file_unfailed holds ft pt bytes s t told none quiet (subst (IsFileScan holds ft pt s t) fault h)
    (subst (IsScan holds ft pt (file_seen s) (file_seen t)) fault h.ends)) in
    let next : IsOfTable reply = of_table reply too
    (λ fault. memory_unfailed holds ft pt bytes s left same
    (subst (IsScan holds ft pt (store_seen (memory_of s bytes)) (store_seen left)) fault scanned)) in
    let both = scans_agree holds ft pt (held_at s.header bytes) (file_seen s) (file_seen t) (store_seen (memory_of s bytes)) (store_seen left) answer reply
    (file_held s bytes told) held refl h.ends scanned one next in
    record {
      answers = both.answers;
      reads = both.grown ∙ ap (λ (rs : List Read). rs ++ both.made) unread.reads ∙ sym both.also_grown;
    }

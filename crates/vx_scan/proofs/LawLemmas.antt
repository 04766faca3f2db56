-- How a scan ends is told by its typing, its phases and its faults.
use Rattle.std.proofs.Common.{◌≡◌, refl, ◌∙◌, ℕ, ◌<◌, ◌≤◌, ◌-◌, ◌^◌, Bool, true, false, cond, ◌||◌, Option, Some, List, [], ◌∷◌, Result, Ok, Err, subst, arith, inl, inr, ◌⊎◌}
use Rattle.std.specs.List.{list_any}
use Rattle.std.proofs.lemmas.Bool.{both_ways, or_cases}
use Rattle.vx_dtype.specs.Types.{Bytes, Ty}
use Rattle.vx_expr.specs.Trees.{Tree}
use Rattle.vx_semantics.specs.Meaning.{Slots}
use Rattle.vx_semantics.specs.Breaks.{Cause, by_sum, by_cast}
use Rattle.vx_semantics.specs.Tables.{Table, row_type}
use Rattle.vx_semantics.specs.Scans.{Phase, phase_breaks, phase_breaks_by, first_breaks_by, phases_of, some_phase_breaks, kept_rows_of}
use Rattle.vx_laws_scan.proofs.Keeping.{kept_rows_are_all}
use Rattle.vx_io.specs.Counts.{one_more}
use Rattle.vx_wire.specs.declared.encodings.ExprEncoding.{ExprEncoding}
use Rattle.vx_scan.specs.ErrorKinds.{ErrorKind, of_memory, of_text, of_types, of_break, of_read, kind_of, OnlyOfText, OnlyOfMemory, OnlyOfBreaks}
use Rattle.vx_scan.specs.Stores.{StoreSeen, WhereTold}
use Rattle.vx_scan.proofs.KindLemmas.{memory_alone}
use Rattle.vx_scan.proofs.TextLemmas.{texts_so, both_are_taken, one_text_refusal}
use Rattle.vx_scan.specs.Texts.{AreRefused}
use Rattle.vx_scan.specs.Reports.{report_view}
use Rattle.vx_scan.specs.Scanning.{scan_type, IsScanBroken, IsScanStopped, IsScanOf, IsUnspelled}
use Rattle.vx_scan.specs.ScanLaws.{HonestScansAreWhole, HonestTextScansAreWhole, IsQuietScan, FaultlessStoresCountNoFault}
use Rattle.vx_scan.specs.ScanLaws.{UnbrokenScansReport, UnbrokenTextScansReport, ScansBreakWhereAPhaseBreaks, TextScansBreakWhereAPhaseBreaks}
use Rattle.vx_scan.specs.ScanLaws.{RefusesBy, RefusedTypesAreRefused, RefusedTextsAreRefused}
use Rattle.vx_scan.specs.ScanLaws.{kind_refuses, kind_breaks, is_refusal, is_break, TextReportsExcludeErrors, TextRefusalsExcludeBreaks, ReportsExcludeErrors, RefusalsExcludeBreaks, RefusalsAreOne, BothBreaksAreOfOnePhase}
use Rattle.vx_scan.specs.declared.errors.ScanError.{ScanError}
use Rattle.vx_scan.specs.declared.reports.ScanReport.{ScanReport}

-- what holds of the table that is told
told_here : (held : Option Table) (table : Table) (P : Table → Type 0) → held ≡ Some table → WhereTold held P → P table
told_here held table P e h = subst (λ (o : Option Table). WhereTold o P) e h

-- the rows
pub honest_so : HonestScansAreWhole
honest_so slots f p before after report table h e honest =
    told_here before.held table (λ table. report.rows ≡ kept_rows_of table before.zones slots f p) e h.rows
    ∙ kept_rows_are_all before.zones table slots f p honest

pub honest_texts_so : HonestTextScansAreWhole
honest_texts_so holds ft pt f p before after report table s h e honest =
    honest_so [] f p before after (report_view report) table (texts_so holds ft pt f p before after (Ok report) s h) e honest

-- faults
stays_below : (a b : ℕ) → b ≡ a → a < 2 ^ 64 - 1 → b < one_more a
stays_below a b h k = grind (arith, h, k)

pub faultless_so : FaultlessStoresCountNoFault
faultless_so before after s none few = stays_below before.faults after.faults (s.quiet none) few

below : (a b : ℕ) → a < b → b ≤ a → ⊥
below a b h k = omega (arith, h, k)

-- where the first phase that breaks does so by a cause, some phase breaks
breaks_somewhere : (c : Cause) (t : Ty) (slots : Slots) (phases : List Phase) → first_breaks_by c t slots phases ≡ true → list_any (phase_breaks t slots) phases ≡ true
breaks_somewhere c t slots [] h = absurd cc
breaks_somewhere c t slots (phase ∷ phases) h = by-test (phase_breaks t slots phase) h (breaks_somewhere c t slots phases)
  where
    by-test : (b : Bool) → cond b (phase_breaks_by c t slots phase) (first_breaks_by c t slots phases) ≡ true
        → (first_breaks_by c t slots phases ≡ true → list_any (phase_breaks t slots) phases ≡ true) → (b || list_any (phase_breaks t slots) phases) ≡ true
    by-test true k r = refl
    by-test false k r = r k

first_so : (c : Cause) (slots : Slots) (f p : Tree) (table : Table) (before after : StoreSeen) → before.held ≡ Some table → IsScanBroken c slots f p before after
    → first_breaks_by c (row_type table.columns) slots (phases_of table before.zones slots f p) ≡ true
first_so c slots f p table before after e h =
    told_here before.held table (λ table. first_breaks_by c (row_type table.columns) slots (phases_of table before.zones slots f p) ≡ true) e h.first_breaks

broken_so : (c : Cause) (slots : Slots) (f p : Tree) (table : Table) (before after : StoreSeen) → before.held ≡ Some table → IsScanBroken c slots f p before after
    → some_phase_breaks table before.zones slots f p ≡ true
broken_so c slots f p table before after e h =
    breaks_somewhere c (row_type table.columns) slots (phases_of table before.zones slots f p) (first_so c slots f p table before after e h)

report_so : (slots : Slots) (f p : Tree) (table : Table) (before after : StoreSeen) (report : ScanReport) → before.held ≡ Some table
    → IsScanOf slots f p before after (Ok report) → some_phase_breaks table before.zones slots f p ≡ false
report_so slots f p table before after report e h =
    told_here before.held table (λ table. some_phase_breaks table before.zones slots f p ≡ false) e h.unbroken

-- typed expressions aren't refused, and what is refused is told by typing
never_refused : (answer : Result Ty ScanError) (u : Ty) (e : ScanError) → answer ≡ Ok u → answer ≡ Err e → ⊥
never_refused (Ok v) u e h k = absurd cc
never_refused (Err d) u e h k = absurd cc

one_refusal : (answer : Result Ty ScanError) (d e : ScanError) → answer ≡ Err d → answer ≡ Err e → d ≡ e
one_refusal (Ok v) d e h k = absurd cc
one_refusal (Err c) d e h k = cc

refused_so : (slots : Slots) (f p : Tree) (before after : StoreSeen) (e : ScanError) → is_refusal e ≡ true → IsScanOf slots f p before after (Err e)
    → scan_type (row_type before.zones.columns) slots f p ≡ Err e
refused_so slots f p before after e r h = by (kind_of e) r h
  where
    by : (k : ErrorKind) → kind_refuses k ≡ true → IsScanStopped k slots f p before after e → scan_type (row_type before.zones.columns) slots f p ≡ Err e
    by of_memory r h = absurd cc
    by of_text r h = absurd h
    by of_types r h = h.1
    by (of_break cause) r h = absurd cc
    by of_read r h = absurd cc

-- a break is one by a sum or by a cast
by_break : (slots : Slots) (f p : Tree) (before after : StoreSeen) (e : ScanError) (Gives : Type 0) → is_break e ≡ true
    → ((c : Cause) → IsScanBroken c slots f p before after → Gives) → IsScanOf slots f p before after (Err e) → Gives
by_break slots f p before after e Gives b give h = by (kind_of e) b h
  where
    by : (k : ErrorKind) → kind_breaks k ≡ true → IsScanStopped k slots f p before after e → Gives
    by of_memory b h = absurd cc
    by of_text b h = absurd h
    by of_types b h = absurd cc
    by (of_break cause) b h = give cause h
    by of_read b h = absurd cc

-- a scan of typed expressions over a told table in which no fault was counted gives a report, or is stopped by a break or for want of memory
by_quiet : (slots : Slots) (f p : Tree) (table : Table) (before after : StoreSeen) (Gives : ErrorKind → Type 0) → IsQuietScan slots f p table before after
    → ((c : Cause) → IsScanBroken c slots f p before after → Gives (of_break c)) → Gives of_memory
    → (k : ErrorKind) (e : ScanError) → IsScanStopped k slots f p before after e → Gives k
by_quiet slots f p table before after Gives q broke memory of_memory e h = memory
by_quiet slots f p table before after Gives q broke memory of_text e h = absurd h
by_quiet slots f p table before after Gives q broke memory of_types e h = absurd (never_refused _ q.ty e q.typed h.1)
by_quiet slots f p table before after Gives q broke memory (of_break cause) e h = broke cause h
by_quiet slots f p table before after Gives q broke memory of_read e h = absurd (below after.faults (one_more before.faults) q.no_fault h.risen)

pub unbroken_so : UnbrokenScansReport
unbroken_so slots f p table before after (Ok report) q u h = tt
unbroken_so slots f p table before after (Err e) q u h =
    by_quiet slots f p table before after OnlyOfMemory q
    (λ c k. absurd (both_ways (some_phase_breaks table before.zones slots f p) u (broken_so c slots f p table before after q.held k)))
    tt (kind_of e) e h

pub unbroken_texts_so : UnbrokenTextScansReport
unbroken_texts_so holds ft pt f p table before after result s q u h = unbroken_so [] f p table before after result q u (texts_so holds ft pt f p before after result s h)

pub breaking_so : ScansBreakWhereAPhaseBreaks
breaking_so slots f p table before after (Ok report) q b h =
    absurd (both_ways (some_phase_breaks table before.zones slots f p) (report_so slots f p table before after report q.held h) b)
breaking_so slots f p table before after (Err e) q b h =
    by_quiet slots f p table before after OnlyOfBreaks q (λ c k. tt) tt (kind_of e) e h

pub breaking_texts_so : TextScansBreakWhereAPhaseBreaks
breaking_texts_so holds ft pt f p table before after result s q b h = breaking_so [] f p table before after result q b (texts_so holds ft pt f p before after result s h)

-- two ends
pub reports_so : ReportsExcludeErrors
reports_so slots f p table before after other report e held kind h k = by-kind (or_cases (is_refusal e) (is_break e) kind)
  where
    by-kind : (is_refusal e ≡ true) ⊎ (is_break e ≡ true) → ⊥
    by-kind (inl r) = never_refused (scan_type (row_type before.zones.columns) slots f p) (report_view report).ty e h.typed (refused_so slots f p before other e r k)
    by-kind (inr b) =
        by_break slots f p before other e ⊥ b
        (λ c x. both_ways (some_phase_breaks table before.zones slots f p) (report_so slots f p table before after report held h) (broken_so c slots f p table before other held x))
        k

pub refusals_so : RefusalsExcludeBreaks
refusals_so slots f p before after other d e r b h k =
    by_break slots f p before other e ⊥ b
    (λ c x. never_refused (scan_type (row_type before.zones.columns) slots f p) x.ty d x.typed (refused_so slots f p before after d r h))
    k

pub one_refusal_so : RefusalsAreOne
one_refusal_so slots f p before after other d e r s h k =
    one_refusal (scan_type (row_type before.zones.columns) slots f p) d e (refused_so slots f p before after d r h) (refused_so slots f p before other e s k)

pub breaks_so : BothBreaksAreOfOnePhase
breaks_so slots f p table before after other held h k =
    (first_so by_sum slots f p table before after held h, first_so by_cast slots f p table before other held k)

-- a break needs expressions that are spelled
unspelled_breaks : (holds : ExprEncoding → Bool) (ft pt : Bytes) (before after : StoreSeen) (e : ScanError) → is_break e ≡ true
    → ¬ (IsUnspelled holds ft pt before after (Err e))
unspelled_breaks holds ft pt before after e b h = by (kind_of e) b h.1
  where
    by : (k : ErrorKind) → kind_breaks k ≡ true → ¬ (OnlyOfText k (AreRefused holds ft pt e))
    by of_memory b r = absurd cc
    by of_text b r = absurd cc
    by of_types b r = r
    by (of_break cause) b r = r
    by of_read b r = r

pub text_reports_so : TextReportsExcludeErrors
text_reports_so holds ft pt table before after other report e held kind (inl h) k = h
text_reports_so holds ft pt table before after other report e held kind (inr h) k =
    reports_so [] h.0 h.1 table before after other report e held kind h.3 (texts_so holds ft pt h.0 h.1 before other (Err e) h.2 k)

pub text_refusals_so : TextRefusalsExcludeBreaks
text_refusals_so holds ft pt before after other d e r b h (inl k) = unspelled_breaks holds ft pt before other e b k
text_refusals_so holds ft pt before after other d e r b h (inr k) =
    refusals_so [] k.0 k.1 before after other d e r b (texts_so holds ft pt k.0 k.1 before after (Err d) k.2 h) k.3

-- what is refused is refused whenever it is scanned, but for want of memory
pub refused_types_so : RefusedTypesAreRefused
refused_types_so slots f p before after e (Ok report) r h =
    never_refused (scan_type (row_type before.zones.columns) slots f p) (report_view report).ty e h.typed r
refused_types_so slots f p before after e (Err d) r h = by (kind_of d) refl h
  where
    by : (k : ErrorKind) → kind_of d ≡ k → IsScanStopped k slots f p before after d → RefusesBy e (Err d)
    by of_memory same h = inr (memory_alone d same)
    by of_text same h = absurd h
    by of_types same h = inl (one_refusal (scan_type (row_type before.zones.columns) slots f p) d e h.1 r)
    by (of_break cause) same h = absurd (never_refused (scan_type (row_type before.zones.columns) slots f p) h.ty e h.typed r)
    by of_read same h = absurd (never_refused (scan_type (row_type before.zones.columns) slots f p) h.ty e h.typed r)

unspelled_by : (holds : ExprEncoding → Bool) (ft pt : Bytes) (before after : StoreSeen) (e : ScanError) (result : Result ScanReport ScanError)
    → AreRefused holds ft pt e → IsUnspelled holds ft pt before after result → RefusesBy e result
unspelled_by holds ft pt before after e (Ok report) r h = h
unspelled_by holds ft pt before after e (Err d) r h = by (kind_of d) refl h.1
  where
    by : (k : ErrorKind) → kind_of d ≡ k → OnlyOfText k (AreRefused holds ft pt d) → RefusesBy e (Err d)
    by of_memory same t = inr (memory_alone d same)
    by of_text same t = inl (one_text_refusal holds ft pt d e t r)
    by of_types same t = absurd t
    by (of_break cause) same t = absurd t
    by of_read same t = absurd t

pub refused_texts_so : RefusedTextsAreRefused
refused_texts_so holds ft pt before after e result r (inl h) = unspelled_by holds ft pt before after e result r h
refused_texts_so holds ft pt before after e result r (inr h) = absurd (both_are_taken holds ft pt h.0 h.1 e h.2 r)

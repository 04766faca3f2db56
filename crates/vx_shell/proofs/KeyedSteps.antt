-- How the first rows by a key are found and refused, and that a run by a key writes the answer.
use Rattle.std.proofs.Common.{◌≡◌, refl, ap, sym, ◌∙◌, ℕ, ◌≤◌, Bool, true, false, Option, Some, None, unwrap_or, List, [], ◌∷◌, ◌++◌, map, length, suc, Result, Ok, Err, inl, inr, ⊎_elim, arith, subst}
use Rattle.std.specs.List.{list_any}
use Rattle.std.proofs.lemmas.List.{length-map}
use Rattle.vx_column.specs.Columns.{raw_rows, raws_fit, seen_rows, values_fit}
use Rattle.vx_dtype.specs.declared.Nullability.TheVariants.{NonNullable}
use Rattle.vx_dtype.specs.TypeRules.{field_type, is_plain}
use Rattle.vx_dtype.specs.Types.{Bytes, Ty, bool_ty}
use Rattle.vx_dtype.specs.RawViews.{raw_view}
use Rattle.vx_dtype.specs.Values.{Raw, Val, valued}
use Rattle.vx_dtype.specs.declared.values.ScalarValue.{ScalarValue}
use Rattle.vx_expr.specs.Trees.{Tree}
use Rattle.vx_io.specs.Ends.{Added, AddedPrefix}
use Rattle.vx_laws_shell.specs.Answers.{answer_found, found_by_key}
use Rattle.vx_laws_shell.specs.KeyedRuns.{FoundKeyed, RunsByKey}
use Rattle.vx_laws_shell.specs.Lines.{row_lines}
use Rattle.vx_laws_shell.specs.OrderedRuns.{RunEnd, finished, without_value, without_column, without_room, without_output}
use Rattle.vx_laws_shell.specs.Running.{End}
use Rattle.vx_laws_shell.proofs.Adding.{added_nothing, added_some}
use Rattle.vx_laws_shell.proofs.KeyedRuns.{keyed_runs_write_answers}
use Rattle.vx_laws_statements.specs.Clauses.{Key}
use Rattle.vx_laws_topk.specs.TopRows.{TopAsk, top_rows_of, top_skipped}
use Rattle.vx_laws_topk.specs.TopPhases.{top_reads, top_reads_to_break, some_top_phase_breaks, first_top_breaks_by}
use Rattle.vx_scan.specs.ErrorKinds.{ErrorKind, of_memory, of_text, of_types, of_break, of_read, kind_of}
use Rattle.vx_scan.specs.Scanning.{AreAmong, scan_type}
use Rattle.vx_scan.specs.Stores.{Read, StoreSeen, WhereTold, AgreesWith}
use Rattle.vx_scan.specs.declared.errors.ScanError.{ScanError}
use Rattle.vx_scan.proofs.ScanLemmas.{told_so, told_both}
use Rattle.vx_semantics.specs.Breaks.{Cause, by_sum, by_cast}
use Rattle.vx_semantics.specs.Tables.{Table, Zones, row_type, numbered_from}
use Rattle.vx_topk.specs.TopEnds.{Topped, IsTypedTop, IsTopReport, IsTopBroken, IsTopFault, IsTopCutOff, IsTopUnscanned, IsTopOf, numbers_of, top_ask}
use Rattle.vx_topk.specs.declared.errors.TopError.{TopError}
use Rattle.vx_topk.specs.declared.errors.TopError.TheVariants as tops
use Rattle.vx_shell.specs.declared.answers.Found.{Found}
use Rattle.vx_shell.specs.declared.errors.Refusal.{Refusal}
use Rattle.vx_shell.specs.declared.errors.Refusal.TheVariants as refusals
use Rattle.vx_shell.specs.Founds.{IsWritten, FindsByKey, asked_by, CountsFault}
use Rattle.vx_shell.specs.KeyedSteps.{ComesOfTop, IsTopRefusal, StopsTop, WritesTop}
use Rattle.vx_shell.specs.Refusals.{ComesInBlock, IsScanRefusal, CutsRows, IsEndOf}
use Rattle.vx_shell.proofs.OrderedSteps.{IsCounted, written_as, finds_no_room}

-- ---- what is asked

-- the type of a key that is a column
same_ask : (zones : Zones) (f p : Tree) (key : Key) (count : ℕ) (t : Ty) → field_type key.column zones.columns ≡ Some t
    → top_ask f p key.column key.descending count t ≡ asked_by zones f p key count
same_ask zones f p key count t h =
    let own : t ≡ unwrap_or (field_type key.column zones.columns) (bool_ty NonNullable) = ap (λ (o : Option Ty). unwrap_or o (bool_ty NonNullable)) (sym h) in
    (λ i. record (asked_by zones f p key count) { key_type = own i })

-- ---- what comes of typed expressions

kind_comes : (kind : ErrorKind) (f p : Tree) (key : Key) (count : ℕ) (a b : StoreSeen) (e : ScanError) (ty : Ty) → IsTypedTop a.zones (asked_by a.zones f p key count) ty
    → IsTopUnscanned kind f p key.column key.descending count a b e → ComesInBlock kind
kind_comes of_memory f p key count a b e ty typed h = absurd h
kind_comes of_text f p key count a b e ty typed h = absurd h
kind_comes of_types f p key count a b e ty typed h =
    let told : scan_type (row_type a.zones.columns) [] f p ≡ Ok ty = typed.typed in
    let other : scan_type (row_type a.zones.columns) [] f p ≡ Err e = h.1.1 in
    let no : ⊥ = cc in
    absurd no
kind_comes (of_break cause) f p key count a b e ty typed h = tt
kind_comes of_read f p key count a b e ty typed h = tt

pub top_comes : (f p : Tree) (key : Key) (count : ℕ) (a b : StoreSeen) (error : TopError) (ty : Ty) → IsTypedTop a.zones (asked_by a.zones f p key count) ty
    → IsTopOf f p key.column key.descending count a b (Err error) → ComesOfTop error
top_comes f p key count a b tops.NoMemory ty typed h = tt
top_comes f p key count a b tops.UnknownKey ty typed h =
    let column : field_type key.column a.zones.columns ≡ Some (asked_by a.zones f p key count).key_type = typed.column in
    let none : field_type key.column a.zones.columns ≡ None = h.1 in
    let no : ⊥ = cc in
    absurd no
top_comes f p key count a b tops.BadKey ty typed h =
    let t = (asked_by a.zones f p key count).key_type in
    let column : field_type key.column a.zones.columns ≡ Some t = typed.column in
    let other : field_type key.column a.zones.columns ≡ Some h.1.0 = h.1.1 in
    let same : h.1.0 ≡ t = cc in
    let plain : is_plain h.1.0 ≡ true = ap is_plain same ∙ typed.plain in
    let bad : is_plain h.1.0 ≡ false = h.1.2 in
    let no : ⊥ = cc in
    absurd no
top_comes f p key count a b (tops.Scan e) ty typed h = kind_comes (kind_of e) f p key count a b e ty typed h

kind_stops : (kind : ErrorKind) (f p : Tree) (key : Key) (count : ℕ) (a b : StoreSeen) (e : ScanError) (refusal : Refusal) → ComesInBlock kind
    → IsScanRefusal kind refusal → IsTopUnscanned kind f p key.column key.descending count a b e → StopsTop refusal (asked_by a.zones f p key count) a b
kind_stops of_memory f p key count a b e refusal comes is h = absurd h
kind_stops of_text f p key count a b e refusal comes is h = absurd h
kind_stops of_types f p key count a b e refusal comes is h = absurd comes
kind_stops (of_break by_sum) f p key count a b e refusal comes is h =
    subst (λ (r : Refusal). StopsTop r (asked_by a.zones f p key count) a b) (sym is)
    (subst (λ (ask : TopAsk). IsTopBroken by_sum ask a b) (same_ask a.zones f p key count h.0 h.1.typed.column) h.1)
kind_stops (of_break by_cast) f p key count a b e refusal comes is h =
    subst (λ (r : Refusal). StopsTop r (asked_by a.zones f p key count) a b) (sym is)
    (subst (λ (ask : TopAsk). IsTopBroken by_cast ask a b) (same_ask a.zones f p key count h.0 h.1.typed.column) h.1)
kind_stops of_read f p key count a b e refusal comes is h =
    subst (λ (r : Refusal). StopsTop r (asked_by a.zones f p key count) a b) (sym is)
    (subst (λ (ask : TopAsk). IsTopFault ask a b) (same_ask a.zones f p key count h.0 h.1.typed.column) h.1)

pub top_stops : (f p : Tree) (key : Key) (count : ℕ) (a b : StoreSeen) (error : TopError) (refusal : Refusal) → ComesOfTop error → IsTopRefusal error refusal
    → IsTopOf f p key.column key.descending count a b (Err error) → StopsTop refusal (asked_by a.zones f p key count) a b
top_stops f p key count a b tops.NoMemory refusal comes is h =
    subst (λ (r : Refusal). StopsTop r (asked_by a.zones f p key count) a b) (sym is)
    (⊎_elim
    (λ (same : b ≡ a). inl same)
    (λ (k : (t : Ty) × IsTopCutOff (top_ask f p key.column key.descending count t) a b).
    inr (subst (λ (ask : TopAsk). IsTopCutOff ask a b) (same_ask a.zones f p key count k.0 k.1.typed.column) k.1))
    h)
top_stops f p key count a b tops.UnknownKey refusal comes is h = absurd comes
top_stops f p key count a b tops.BadKey refusal comes is h = absurd comes
top_stops f p key count a b (tops.Scan e) refusal comes is h = kind_stops (kind_of e) f p key count a b e refusal comes is h

pub top_reported : (f p : Tree) (key : Key) (count : ℕ) (a b : StoreSeen) (report : Topped)
    → ((t : Ty) × IsTopReport (top_ask f p key.column key.descending count t) a b report) → IsTopReport (asked_by a.zones f p key count) a b report
top_reported f p key count a b report h =
    subst (λ (ask : TopAsk). IsTopReport ask a b report) (same_ask a.zones f p key count h.0 h.1.typed.column) h.1

-- ---- how many blocks are skipped

among_length : {X : Type 0} (xs ys : List X) → AreAmong xs ys → length xs ≤ length ys
among_length [] ys h = omega arith
among_length (x ∷ xs) [] h = absurd h
among_length (x ∷ xs) (y ∷ ys) (inl h) = let less = among_length xs ys h.1 in omega arith
among_length (x ∷ xs) (y ∷ ys) (inr h) = let less = among_length (x ∷ xs) ys h in omega arith

pub few_skipped : (f p : Tree) (key : Key) (count : ℕ) (a b : StoreSeen) (report : Topped) → IsTopReport (asked_by a.zones f p key count) a b report
    → length report.skipped ≤ length a.zones.lengths
few_skipped f p key count a b report h =
    omega (arith, among_length report.skipped (numbers_of a.zones.lengths) h.skips.blocks, numbers_length 0 a.zones.lengths)
  where
    numbers_length : (n : ℕ) (ns : List ℕ) → length (map (λ (b : ℕ × ℕ). b.0) (numbered_from n ns)) ≡ length ns
    numbers_length n [] = refl
    numbers_length n (m ∷ ns) = ap suc (numbers_length (suc n) ns)

-- ---- the answer

-- by a run that ends so, and makes these reads
keyed_finds : (f p : Tree) (key : Key) (count : ℕ) (a b : StoreSeen) (x y : End) (result : Result Found Refusal) (end : RunEnd) (made : List Read) (lines : Bytes)
    (skipped rows : ℕ) → b.log ≡ a.log ++ made → Added x.bytes y.bytes lines → CountsFault result a b x y → IsEndOf result end
    → WhereTold a.held (λ table. RunsByKey end (asked_by a.zones f p key count) table a.zones made b.failed skipped rows x y × IsCounted result table skipped rows)
    → FindsByKey f p key count a b x y result
keyed_finds f p key count a b x y result end made lines skipped rows grown added cause is told =
    let ask = asked_by a.zones f p key count in
    record {
      made = made;
      grown = grown;
      lines = lines;
      added = added;
      cause = cause;
      told = told_so a.held (λ table. RunsByKey end ask table a.zones made b.failed skipped rows x y × IsCounted result table skipped rows)
          (λ table. (is_damaged : Read → Bool) → list_any is_damaged made ≡ false
          → IsWritten is_damaged (answer_found is_damaged table (found_by_key is_damaged table a.zones ask)) table made b.failed x y result)
          (λ table k is_damaged clean.
          written_as result end is_damaged (answer_found is_damaged table (found_by_key is_damaged table a.zones ask)) table made b.failed x y skipped rows is k.1
          (keyed_runs_write_answers is_damaged ask table a.zones made b.failed skipped rows x y end k.0 clean))
          told;
    }

-- the finding was stopped: nothing is written
keyed_broken : (cause : Cause) (f p : Tree) (key : Key) (count : ℕ) (a b : StoreSeen) (x : End) (result : Result Found Refusal) → CountsFault result a b x x
    → IsEndOf result without_value → ((table : Table) → IsCounted result table 0 0) → IsTopBroken cause (asked_by a.zones f p key count) a b
    → FindsByKey f p key count a b x x result
keyed_broken cause f p key count a b x result no_fault is counted h =
    let ask = asked_by a.zones f p key count in
    keyed_finds f p key count a b x x result without_value h.reads.made [] 0 0 h.reads.grown (added_nothing x.bytes) no_fault is
    (told_both a.held (λ table. first_top_breaks_by cause ask table a.zones ≡ true) (λ table. h.reads.made ≡ top_reads_to_break ask table a.zones)
    (λ table. RunsByKey without_value ask table a.zones h.reads.made b.failed 0 0 x x × IsCounted result table 0 0)
    (λ table breaks reads. ((cause, reads, breaks, refl), counted table)) h.first_breaks h.reads.told)

keyed_cut_off : (f p : Tree) (key : Key) (count : ℕ) (a b : StoreSeen) (x : End) → IsTopCutOff (asked_by a.zones f p key count) a b
    → FindsByKey f p key count a b x x (Err refusals.NoMemory)
keyed_cut_off f p key count a b x h =
    let ask = asked_by a.zones f p key count in
    keyed_finds f p key count a b x x (Err refusals.NoMemory) without_room h.reads.made [] 0 0 h.reads.grown (added_nothing x.bytes) tt refl
    (told_so a.held (λ table. (left : List Read) × (top_reads_to_break ask table a.zones ≡ h.reads.made ++ left))
    (λ table. RunsByKey without_room ask table a.zones h.reads.made b.failed 0 0 x x × IsCounted (Err refusals.NoMemory) table 0 0)
    (λ table k. (inl refl, tt)) h.reads.told)

keyed_fault : (f p : Tree) (key : Key) (count : ℕ) (a b : StoreSeen) (x : End) → IsTopFault (asked_by a.zones f p key count) a b
    → FindsByKey f p key count a b x x (Err refusals.StoreFault)
keyed_fault f p key count a b x h =
    let ask = asked_by a.zones f p key count in
    keyed_finds f p key count a b x x (Err refusals.StoreFault) without_column h.reads.made [] 0 0 h.reads.grown (added_nothing x.bytes) h.risen refl
    (told_so a.held (λ table. (left : List Read) × (top_reads_to_break ask table a.zones ≡ h.reads.made ++ (h.read ∷ left)))
    (λ table. RunsByKey without_column ask table a.zones h.reads.made b.failed 0 0 x x × IsCounted (Err refusals.StoreFault) table 0 0)
    (λ table k. ((h.read, k.0, h.failed, k.1, refl), tt)) h.reads.told)

pub keyed_stopped : (f p : Tree) (key : Key) (count : ℕ) (a b : StoreSeen) (x : End) (refusal : Refusal) → StopsTop refusal (asked_by a.zones f p key count) a b
    → FindsByKey f p key count a b x x (Err refusal)
keyed_stopped f p key count a b x refusals.NoMemory h =
    ⊎_elim
    (λ (same : b ≡ a).
    subst (λ (now : StoreSeen). FindsByKey f p key count a now x x (Err refusals.NoMemory)) (sym same)
    (finds_no_room (λ is_damaged table. answer_found is_damaged table (found_by_key is_damaged table a.zones (asked_by a.zones f p key count))) a x))
    (λ (k : IsTopCutOff (asked_by a.zones f p key count) a b). keyed_cut_off f p key count a b x k)
    h
keyed_stopped f p key count a b x refusals.Overflow h = keyed_broken by_sum f p key count a b x (Err refusals.Overflow) tt refl (λ table. tt) h
keyed_stopped f p key count a b x refusals.BadCast h = keyed_broken by_cast f p key count a b x (Err refusals.BadCast) tt refl (λ table. tt) h
keyed_stopped f p key count a b x refusals.StoreFault h = keyed_fault f p key count a b x h
keyed_stopped f p key count a b x _ h = absurd h

-- what a report tells of a table
abbrev ReportTold : TopAsk → Zones → Topped → List Read → Table → Type 0
ReportTold ask zones report made table =
    FoundKeyed ask table zones made × (report.rows ≡ top_rows_of ask table zones) × (report.skipped ≡ top_skipped ask table zones)

report_told : (ask : TopAsk) (a b : StoreSeen) (report : Topped) (h : IsTopReport ask a b report) → WhereTold a.held (ReportTold ask a.zones report h.reads.made)
report_told ask a b report h = by-table a.held h.rows h.skipped h.unbroken h.reads.told
  where
    by-table : (held : Option Table) → WhereTold held (λ table. report.rows ≡ top_rows_of ask table a.zones)
        → WhereTold held (λ table. report.skipped ≡ top_skipped ask table a.zones) → WhereTold held (λ table. some_top_phase_breaks ask table a.zones ≡ false)
        → WhereTold held (λ table. h.reads.made ≡ top_reads ask table a.zones) → WhereTold held (ReportTold ask a.zones report h.reads.made)
    by-table None rows skipped unbroken reads = tt
    by-table (Some table) rows skipped unbroken reads = ((reads, unbroken), rows, skipped)

-- the rows were found, and not written whole
pub keyed_cut : (f p : Tree) (key : Key) (count : ℕ) (a b : StoreSeen) (x y : End) (report : Topped) (refusal : Refusal)
    → IsTopReport (asked_by a.zones f p key count) a b report → AddedPrefix x.bytes y.bytes (row_lines report.rows) → CutsRows refusal x.faults y.faults
    → FindsByKey f p key count a b x y (Err refusal)
keyed_cut f p key count a b x y report refusals.NoMemory h part cuts =
    let ask = asked_by a.zones f p key count in
    let some = added_some x.bytes y.bytes (row_lines report.rows) part in
    keyed_finds f p key count a b x y (Err refusals.NoMemory) without_room h.reads.made some.0 0 0 h.reads.grown some.1 tt refl
    (told_so a.held (ReportTold ask a.zones report h.reads.made)
    (λ table. RunsByKey without_room ask table a.zones h.reads.made b.failed 0 0 x y × IsCounted (Err refusals.NoMemory) table 0 0)
    (λ table k. (inr (k.0, subst (λ (rows : List Val). AddedPrefix x.bytes y.bytes (row_lines rows)) k.1 part), tt))
    (report_told ask a b report h))
keyed_cut f p key count a b x y report refusals.Unwritten h part cuts =
    let ask = asked_by a.zones f p key count in
    let some = added_some x.bytes y.bytes (row_lines report.rows) part in
    keyed_finds f p key count a b x y (Err refusals.Unwritten) without_output h.reads.made some.0 0 0 h.reads.grown some.1 cuts refl
    (told_so a.held (ReportTold ask a.zones report h.reads.made)
    (λ table. RunsByKey without_output ask table a.zones h.reads.made b.failed 0 0 x y × IsCounted (Err refusals.Unwritten) table 0 0)
    (λ table k. (((k.0, subst (λ (rows : List Val). AddedPrefix x.bytes y.bytes (row_lines rows)) k.1 part), cuts), tt))
    (report_told ask a b report h))
keyed_cut f p key count a b x y report _ h part cuts = absurd cuts

-- they were written whole
pub keyed_written : (f p : Tree) (key : Key) (count : ℕ) (a b : StoreSeen) (x y : End) (report : Topped) (found : Found)
    → IsTopReport (asked_by a.zones f p key count) a b report → WhereTold a.held (AgreesWith a.zones) → Added x.bytes y.bytes (row_lines report.rows)
    → found.blocks ≡ length a.zones.lengths → found.skipped ≡ length report.skipped → found.rows ≡ length report.rows
    → FindsByKey f p key count a b x y (Ok found)
keyed_written f p key count a b x y report found h agrees whole blocks skipped rows =
    let ask = asked_by a.zones f p key count in
    keyed_finds f p key count a b x y (Ok found) finished h.reads.made (row_lines report.rows) found.skipped found.rows h.reads.grown whole tt refl
    (told_both a.held (AgreesWith a.zones) (ReportTold ask a.zones report h.reads.made)
    (λ table. RunsByKey finished ask table a.zones h.reads.made b.failed found.skipped found.rows x y × IsCounted (Ok found) table found.skipped found.rows)
    (λ table agree k. (
      (
        k.0,
        subst (λ (rs : List Val). Added x.bytes y.bytes (row_lines rs)) k.1 whole,
        skipped ∙ ap (λ (ns : List ℕ). length ns) k.2,
        rows ∙ ap (λ (rs : List Val). length rs) k.1,
      ),
      (
        blocks ∙ ap (λ (ns : List ℕ). length ns) (sym agree.lengths) ∙ length-map table.blocks (λ (rs : List Val). length rs),
        refl,
        refl,
      ),
    ))
    agrees (report_told ask a b report h))

-- what was written of a report finds the answer
pub keyed_ends : (f p : Tree) (key : Key) (count : ℕ) (a b : StoreSeen) (x y : End) (report : Topped) (blocks : ℕ) (result : Result Found Refusal)
    → blocks ≡ length a.zones.lengths → WhereTold a.held (AgreesWith a.zones) → IsTopReport (asked_by a.zones f p key count) a b report
    → WritesTop report blocks x y result → FindsByKey f p key count a b x y result
keyed_ends f p key count a b x y report blocks (Ok found) number agrees h w =
    keyed_written f p key count a b x y report found h agrees w.0 (w.1 ∙ number) w.2 w.3
keyed_ends f p key count a b x y report blocks (Err refusal) number agrees h w = keyed_cut f p key count a b x y report refusal h w.0 w.1

-- the rows of a report as values of the code
pub raws_seen : (t : Ty) (values : List ScalarValue) (raws : List Raw) → map raw_view values ≡ raws → seen_rows t values ≡ raw_rows t raws
raws_seen t values raws same = ap (λ (xs : List Raw). raw_rows t xs) same

pub raws_are_fit : (t : Ty) (values : List ScalarValue) (raws : List Raw) → map raw_view values ≡ raws → raws_fit t raws ≡ true → values_fit t values ≡ true
raws_are_fit t values raws same h = ap (λ (xs : List Raw). raws_fit t xs) same ∙ h

pub raws_long : (t : Ty) (values : List ScalarValue) (raws : List Raw) → map raw_view values ≡ raws → length values ≡ length (raw_rows t raws)
raws_long t values raws same =
    sym (length-map values raw_view) ∙ ap (λ (xs : List Raw). length xs) same ∙ sym (length-map raws (λ (x : Raw). valued x t))

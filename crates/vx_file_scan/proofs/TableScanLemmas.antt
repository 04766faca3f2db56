-- Two scans by the same texts over stores that hold one table end the same, where the table tells how they end.
use Rattle.std.proofs.Common.{◌≡◌, refl, sym, ap, ◌∙◌, subst, inl, inr, Bool, true, false, cond, ◌||◌, Some, List, [], ◌∷◌, ◌++◌}
use Rattle.std.specs.Prelude.{Result, Ok, Err}
use Rattle.std.specs.List.{list_any}
use Rattle.std.proofs.lemmas.Bool.{both_ways}
use Rattle.std.proofs.lemmas.List.{append-nil}
use Rattle.vx_dtype.specs.Types.{Bytes, Ty}
use Rattle.vx_expr.specs.Trees.{Tree}
use Rattle.vx_semantics.specs.Breaks.{Cause}
use Rattle.vx_semantics.specs.Meaning.{Slots}
use Rattle.vx_semantics.specs.Tables.{Table, Zones, row_type}
use Rattle.vx_semantics.specs.Asked.{asked_columns}
use Rattle.vx_semantics.specs.Scans.{Phase, phase_breaks, phase_breaks_by, phases_of, first_breaks_by, kept_rows_of, kept_blocks, skipped_blocks, reads_of, reads_to_break, some_phase_breaks}
use Rattle.vx_wire.specs.declared.encodings.ExprEncoding.{ExprEncoding}
use Rattle.vx_scan.specs.ErrorKinds.{ErrorKind, of_memory, of_text, of_types, of_break, of_read, kind_of, OnlyOfText}
use Rattle.vx_scan.specs.Stores.{Read, StoreSeen}
use Rattle.vx_scan.specs.Texts.{SpellBoth, AreRefused}
use Rattle.vx_scan.specs.Reports.{Report, report_view}
use Rattle.vx_scan.specs.Scanning.{scan_type, IsScanStopped, IsScanOf, IsUnspelled}
use Rattle.vx_scan.specs.ScanLaws.{kind_breaks}
use Rattle.vx_scan.specs.declared.errors.ScanError.{ScanError}
use Rattle.vx_scan.specs.declared.reports.ScanReport.{ScanReport}
use Rattle.vx_scan.proofs.TextLemmas.{texts_so, both_are_taken, one_text_refusal}
use Rattle.vx_file_scan.specs.TableScans.{IsKindOfTable, IsOfTable, SayTheSame, EndTheSame, ScansOfOneTableEndTheSame}
use Rattle.vx_file_scan.proofs.FileScanLemmas.{told_here}

-- ---- what an end says that the table tells

-- a report is this one, and these reads were made
pub record IsReportOf (table : Table) (zones : Zones) (slots : Slots) (f p : Tree) (made : List Read) (report : Report) : Type 0 where
  pub typed : scan_type (row_type zones.columns) slots f p ≡ Ok report.ty
  pub rows : report.rows ≡ kept_rows_of table zones slots f p
  pub unbroken : some_phase_breaks table zones slots f p ≡ false
  pub kept : report.kept ≡ kept_blocks zones slots f
  pub skipped : report.skipped ≡ skipped_blocks zones slots f
  pub filter_columns : report.filter_columns ≡ asked_columns (row_type zones.columns) f
  pub projection_columns : report.projection_columns ≡ asked_columns (row_type zones.columns) p
  pub reads : made ≡ reads_of table zones slots f p

-- a refusal is that of the typing, and nothing was read; a break is one of a phase, and these reads were made
abbrev pub IsStopOf : ErrorKind → Table → Zones → Slots → Tree → Tree → List Read → ScanError → Type 0
IsStopOf of_types table zones slots f p made e = (made ≡ []) × (scan_type (row_type zones.columns) slots f p ≡ Err e)
IsStopOf (of_break cause) table zones slots f p made e =
    (made ≡ reads_to_break table zones slots f p) × (some_phase_breaks table zones slots f p ≡ true)
    × ((u : Ty) × (scan_type (row_type zones.columns) slots f p ≡ Ok u))
IsStopOf _ table zones slots f p made e = ⊥

abbrev pub IsEndOf : Table → Zones → Slots → Tree → Tree → List Read → Result ScanReport ScanError → Type 0
IsEndOf table zones slots f p made (Ok report) = IsReportOf table zones slots f p made (report_view report)
IsEndOf table zones slots f p made (Err e) = IsStopOf (kind_of e) table zones slots f p made e

-- where the first phase that breaks does so by a cause, some phase breaks
breaks_somewhere : (c : Cause) (t : Ty) (slots : Slots) (phases : List Phase) → first_breaks_by c t slots phases ≡ true → list_any (phase_breaks t slots) phases ≡ true
breaks_somewhere c t slots [] h = absurd cc
breaks_somewhere c t slots (phase ∷ phases) h = by-test (phase_breaks t slots phase) h (breaks_somewhere c t slots phases)
  where
    by-test : (b : Bool) → cond b (phase_breaks_by c t slots phase) (first_breaks_by c t slots phases) ≡ true
        → (first_breaks_by c t slots phases ≡ true → list_any (phase_breaks t slots) phases ≡ true) → (b || list_any (phase_breaks t slots) phases) ≡ true
    by-test true k r = refl
    by-test false k r = r k

-- what a scan made of the log, and what its end says
pub record Ends (table : Table) (slots : Slots) (f p : Tree) (before after : StoreSeen) (answer : Result ScanReport ScanError) : Type 0 where
  pub made : List Read
  pub grown : after.log ≡ before.log ++ made
  pub end : IsEndOf table before.zones slots f p made answer

unread_log : (before after : StoreSeen) → after ≡ before → after.log ≡ before.log ++ []
unread_log before after e = ap (λ (u : StoreSeen). u.log) e ∙ sym (append-nil before.log)

-- what a stop says
pub record Stops (k : ErrorKind) (table : Table) (slots : Slots) (f p : Tree) (before after : StoreSeen) (e : ScanError) : Type 0 where
  pub made : List Read
  pub grown : after.log ≡ before.log ++ made
  pub end : IsStopOf k table before.zones slots f p made e

pub stop_says : (k : ErrorKind) (table : Table) (slots : Slots) (f p : Tree) (before after : StoreSeen) (e : ScanError) → before.held ≡ Some table → IsKindOfTable k
    → IsScanStopped k slots f p before after e → Stops k table slots f p before after e
stop_says of_memory table slots f p before after e held told h = absurd told
stop_says of_text table slots f p before after e held told h = absurd h
stop_says of_types table slots f p before after e held told h = record { made = []; grown = unread_log before after h.0; end = (refl, h.1) }
stop_says (of_break cause) table slots f p before after e held told h = record {
  made = h.reads.made;
  grown = h.reads.grown;
  end = (
    told_here before.held table (λ table. h.reads.made ≡ reads_to_break table before.zones slots f p) held h.reads.told,
    breaks_somewhere cause (row_type table.columns) slots (phases_of table before.zones slots f p)
        (told_here before.held table (λ table. first_breaks_by cause (row_type table.columns) slots (phases_of table before.zones slots f p) ≡ true) held h.first_breaks),
    (h.ty, h.typed),
  );
}
stop_says of_read table slots f p before after e held told h = absurd told

pub end_says : (table : Table) (slots : Slots) (f p : Tree) (before after : StoreSeen) (answer : Result ScanReport ScanError) → before.held ≡ Some table
    → IsOfTable answer → IsScanOf slots f p before after answer → Ends table slots f p before after answer
end_says table slots f p before after (Ok report) held told h = record {
  made = h.reads.made;
  grown = h.reads.grown;
  end = record {
    typed = h.typed;
    rows = told_here before.held table (λ table. (report_view report).rows ≡ kept_rows_of table before.zones slots f p) held h.rows;
    unbroken = told_here before.held table (λ table. some_phase_breaks table before.zones slots f p ≡ false) held h.unbroken;
    kept = h.kept;
    skipped = h.skipped;
    filter_columns = h.filter_columns;
    projection_columns = h.projection_columns;
    reads = told_here before.held table (λ table. h.reads.made ≡ reads_of table before.zones slots f p) held h.reads.told;
  };
}
end_says table slots f p before after (Err e) held told h =
    let stop = stop_says (kind_of e) table slots f p before after e held told h in record { made = stop.made; grown = stop.grown; end = stop.end }

-- ---- two ends

-- what two ends of scans of one table say, and which reads they made
pub record Agree (made also : List Read) (answer reply : Result ScanReport ScanError) : Type 0 where
  pub answers : SayTheSame answer reply
  pub reads : also ≡ made

one_type : (a : Result Ty ScanError) (u v : Ty) → a ≡ Ok u → a ≡ Ok v → u ≡ v
one_type (Ok w) u v h k = cc
one_type (Err e) u v h k = absurd cc

one_error : (a : Result Ty ScanError) (d e : ScanError) → a ≡ Err d → a ≡ Err e → d ≡ e
one_error (Ok w) d e h k = absurd cc
one_error (Err c) d e h k = cc

never_both : (a : Result Ty ScanError) (u : Ty) (e : ScanError) → a ≡ Ok u → a ≡ Err e → ⊥
never_both (Ok w) u e h k = absurd cc
never_both (Err c) u e h k = absurd cc

one_report : (table : Table) (zones : Zones) (slots : Slots) (f p : Tree) (made also : List Read) (r q : Report) → IsReportOf table zones slots f p made r
    → IsReportOf table zones slots f p also q → r ≡ q
one_report table zones slots f p made also r q h k =
    let types : r.ty ≡ q.ty = one_type (scan_type (row_type zones.columns) slots f p) r.ty q.ty h.typed k.typed in
    let rows : r.rows ≡ q.rows = h.rows ∙ sym k.rows in
    let kept : r.kept ≡ q.kept = h.kept ∙ sym k.kept in
    let skipped : r.skipped ≡ q.skipped = h.skipped ∙ sym k.skipped in
    let filter_columns : r.filter_columns ≡ q.filter_columns = h.filter_columns ∙ sym k.filter_columns in
    let projection_columns : r.projection_columns ≡ q.projection_columns = h.projection_columns ∙ sym k.projection_columns in
    λ i. record {
      ty = types i;
      rows = rows i;
      kept = kept i;
      skipped = skipped i;
      filter_columns = filter_columns i;
      projection_columns = projection_columns i;
    }

report_excludes : (k : ErrorKind) (table : Table) (zones : Zones) (slots : Slots) (f p : Tree) (made also : List Read) (r : Report) (e : ScanError)
    → IsReportOf table zones slots f p made r → ¬ (IsStopOf k table zones slots f p also e)
report_excludes of_types table zones slots f p made also r e h x = never_both (scan_type (row_type zones.columns) slots f p) r.ty e h.typed x.1
report_excludes (of_break cause) table zones slots f p made also r e h x = both_ways (some_phase_breaks table zones slots f p) h.unbroken x.1
report_excludes of_memory table zones slots f p made also r e h x = x
report_excludes of_text table zones slots f p made also r e h x = x
report_excludes of_read table zones slots f p made also r e h x = x

stops_agree : (k l : ErrorKind) (table : Table) (zones : Zones) (slots : Slots) (f p : Tree) (made also : List Read) (d e : ScanError) → kind_of d ≡ k → kind_of e ≡ l
    → IsStopOf k table zones slots f p made d → IsStopOf l table zones slots f p also e → Agree made also (Err d) (Err e)
stops_agree of_types of_types table zones slots f p made also d e same other h x =
    record { answers = inl (one_error (scan_type (row_type zones.columns) slots f p) d e h.1 x.1); reads = x.0 ∙ sym h.0 }
stops_agree (of_break cause) (of_break by) table zones slots f p made also d e same other h x =
    record { answers = inr (ap kind_breaks same, ap kind_breaks other); reads = x.0 ∙ sym h.0 }
stops_agree of_types (of_break by) table zones slots f p made also d e same other h x =
    absurd (never_both (scan_type (row_type zones.columns) slots f p) x.2.0 d x.2.1 h.1)
stops_agree (of_break cause) of_types table zones slots f p made also d e same other h x =
    absurd (never_both (scan_type (row_type zones.columns) slots f p) h.2.0 e h.2.1 x.1)
stops_agree of_memory l table zones slots f p made also d e same other h x = absurd h
stops_agree of_text l table zones slots f p made also d e same other h x = absurd h
stops_agree of_read l table zones slots f p made also d e same other h x = absurd h
stops_agree of_types of_memory table zones slots f p made also d e same other h x = absurd x
stops_agree of_types of_text table zones slots f p made also d e same other h x = absurd x
stops_agree of_types of_read table zones slots f p made also d e same other h x = absurd x
stops_agree (of_break cause) of_memory table zones slots f p made also d e same other h x = absurd x
stops_agree (of_break cause) of_text table zones slots f p made also d e same other h x = absurd x
stops_agree (of_break cause) of_read table zones slots f p made also d e same other h x = absurd x

ends_agree : (table : Table) (zones : Zones) (slots : Slots) (f p : Tree) (made also : List Read) (answer reply : Result ScanReport ScanError)
    → IsEndOf table zones slots f p made answer → IsEndOf table zones slots f p also reply → Agree made also answer reply
ends_agree table zones slots f p made also (Ok r) (Ok q) h x =
    record { answers = one_report table zones slots f p made also (report_view r) (report_view q) h x; reads = x.reads ∙ sym h.reads }
ends_agree table zones slots f p made also (Ok r) (Err e) h x =
    absurd (report_excludes (kind_of e) table zones slots f p made also (report_view r) e h x)
ends_agree table zones slots f p made also (Err d) (Ok q) h x =
    absurd (report_excludes (kind_of d) table zones slots f p also made (report_view q) d x h)
ends_agree table zones slots f p made also (Err d) (Err e) h x = stops_agree (kind_of d) (kind_of e) table zones slots f p made also d e refl refl h x

spelled_agree : (slots : Slots) (f p : Tree) (table : Table) (before after other left : StoreSeen) (answer reply : Result ScanReport ScanError)
    → before.held ≡ Some table → other.held ≡ Some table → other.zones ≡ before.zones → IsScanOf slots f p before after answer
    → IsScanOf slots f p other left reply → IsOfTable answer → IsOfTable reply → EndTheSame before after other left answer reply
spelled_agree slots f p table before after other left answer reply held also zones h x told too =
    let one = end_says table slots f p before after answer held told h in
    let next = end_says table slots f p other left reply also too x in
    let both = ends_agree table before.zones slots f p one.made next.made answer reply one.end
    (subst (λ (z : Zones). IsEndOf table z slots f p next.made reply) zones next.end) in
    record {
      answers = both.answers;
      made = one.made;
      grown = one.grown;
      also_grown = next.grown ∙ ap (λ (rs : List Read). other.log ++ rs) both.reads;
    }

-- ---- texts

-- texts that are refused, and where nothing was read
refused_text : (k : ErrorKind) (Why : Type 0) → IsKindOfTable k → OnlyOfText k Why → Why
refused_text of_memory Why told h = absurd told
refused_text of_text Why told h = h
refused_text of_types Why told h = absurd h
refused_text (of_break cause) Why told h = absurd h
refused_text of_read Why told h = absurd h

unspelled_agree : (holds : ExprEncoding → Bool) (ft pt : Bytes) (before after other left : StoreSeen) (answer reply : Result ScanReport ScanError)
    → IsUnspelled holds ft pt before after answer → IsUnspelled holds ft pt other left reply → IsOfTable answer → IsOfTable reply
    → EndTheSame before after other left answer reply
unspelled_agree holds ft pt before after other left (Ok r) reply h x told too = absurd h
unspelled_agree holds ft pt before after other left (Err d) (Ok q) h x told too = absurd x
unspelled_agree holds ft pt before after other left (Err d) (Err e) h x told too = record {
  answers = inl (one_text_refusal holds ft pt d e (refused_text (kind_of d) (AreRefused holds ft pt d) told h.1) (refused_text (kind_of e) (AreRefused holds ft pt e) too x.1));
  made = [];
  grown = unread_log before after h.0;
  also_grown = unread_log other left x.0;
}

never_unspelled : (holds : ExprEncoding → Bool) (ft pt : Bytes) (f p : Tree) (before after : StoreSeen) (answer : Result ScanReport ScanError)
    → SpellBoth holds ft pt f p → IsOfTable answer → ¬ (IsUnspelled holds ft pt before after answer)
never_unspelled holds ft pt f p before after (Ok r) spelled told h = h
never_unspelled holds ft pt f p before after (Err d) spelled told h =
    both_are_taken holds ft pt f p d spelled (refused_text (kind_of d) (AreRefused holds ft pt d) told h.1)

pub scans_agree : ScansOfOneTableEndTheSame
scans_agree holds ft pt table before after other left answer reply held also zones (inl h) (inl x) told too =
    unspelled_agree holds ft pt before after other left answer reply h x told too
scans_agree holds ft pt table before after other left answer reply held also zones (inl h) (inr x) told too =
    absurd (never_unspelled holds ft pt x.0 x.1 before after answer x.2 told h)
scans_agree holds ft pt table before after other left answer reply held also zones (inr h) x told too =
    spelled_agree [] h.0 h.1 table before after other left answer reply held also zones h.3 (texts_so holds ft pt h.0 h.1 other left reply h.2 x) told too

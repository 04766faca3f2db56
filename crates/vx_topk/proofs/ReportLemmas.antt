-- The report of first rows: of what was found behind the last block, and of no rows where none is asked; and the refusals before the first block.
use Rattle.std.proofs.Common.{◌≡◌, refl, ap, ap₂, sym, ◌∙◌, subst, ℕ, suc, ◌+◌, ◌<◌, ◌≤◌, Bool, true, false, cond, ◌&&◌, ◌||◌, Some, None, List, [], ◌∷◌, ◌++◌, map, length, take, Ok, Err, append-nil, arith, inl, inr, eqb-true}
use Rattle.std.specs.Prelude.{nat_eq}
use Rattle.std.specs.List.{AllByRecursion, list_any}
use Rattle.std.proofs.lemmas.Bool.{and_from}
use Rattle.std.proofs.lemmas.List.{append_cancel_left}
use Rattle.vx_dtype.specs.Types.{Bytes, Ty}
use Rattle.vx_dtype.specs.TypeRules.{is_plain, field_type}
use Rattle.vx_dtype.specs.TypeViews.{type_view}
use Rattle.vx_dtype.specs.Values.{Raw, Val, valued}
use Rattle.vx_dtype.specs.Fits.{fits}
use Rattle.vx_dtype.specs.RawViews.{raw_view}
use Rattle.vx_column.specs.Columns.{raws_fit, raw_rows}
use Rattle.vx_expr.specs.Trees.{Tree}
use Rattle.vx_semantics.specs.Pruning.{rules_out}
use Rattle.vx_semantics.specs.Scans.{block_phases}
use Rattle.vx_semantics.specs.Tables.{Table, Zones, row_type, numbered_from}
use Rattle.vx_laws_topk.specs.TopRows.{Keyed, TopAsk, bounded_filter, bound_before, bound_slots, top, first_rows, top_skips, found_with, found_over, values_of, top_rows_of, top_skipped}
use Rattle.vx_laws_topk.specs.TopPhases.{SlottedPhase, keyed_projection, phases_with, phases_over, top_phases, top_reads, slotted_breaks, slotted_reads, some_top_phase_breaks, top_asked}
use Rattle.vx_laws_topk.proofs.Finding.{count_of_none}
use Rattle.vx_scan.specs.ErrorKinds.{ErrorKind, of_memory, of_text, of_types, of_break, of_read, kind_of, OnlyOfTypes}
use Rattle.vx_scan.specs.Stores.{Read, StoreSeen, WhereTold, AgreesWith}
use Rattle.vx_scan.specs.Scanning.{scan_type, AreAmong}
use Rattle.vx_scan.specs.declared.errors.ScanError.{ScanError}
use Rattle.vx_scan.specs.declared.errors.ScanError.TheVariants as scans
use Rattle.vx_scan.proofs.ScanLemmas.{told_so, told_both}
use Rattle.vx_scan.proofs.StepLemmas.{no_more_blocks}
use Rattle.vx_topk.specs.FirstRows.{Entry, keyed_entry, IsHeld, HoldFirst, IsAskedBy, start_of}
use Rattle.vx_topk.specs.TopEnds.{Topped, top_view, numbers_of, is_read_of, IsTypedTop, SkipsBlocks, IsTopReport, top_ask, IsTopUnscanned, IsTopOf}
use Rattle.vx_topk.specs.Ready.{kind_top_error, top_error, GivesKey, GivesType}
use Rattle.vx_topk.specs.TopRuns.{TopRuns, top_phases_before, found_before, top_skipped_before, IsFoundTo, IsTopStopped}
use Rattle.vx_topk.specs.Tops.{ReportsFinding, EndsTop}
use Rattle.vx_topk.specs.declared.finding.Finding.{Finding}
use Rattle.vx_topk.specs.declared.first_rows.FirstRows.{FirstRows}
use Rattle.vx_topk.specs.declared.row_keys.RowPlace.{RowPlace}
use Rattle.vx_topk.specs.declared.reports.TopReport.{TopReport}
use Rattle.vx_topk.specs.declared.errors.TopError.{TopError}
use Rattle.vx_topk.specs.declared.errors.TopError.TheVariants as errors
use Rattle.vx_topk.proofs.HoldLemmas.{held-few, map-length}
use Rattle.vx_topk.proofs.TopRunLemmas.{slotted}
use Rattle.vx_topk.proofs.TopStepLemmas.{phases-end, found-end, skipped-end, among-all}
use Rattle.vx_topk.proofs.SkipLemmas.{skips-end, skips-all}

-- the raw values of the held rows stand for the values of the first rows
raw-values : (k v : Ty) (es : List Entry) → raw_rows v (map (λ (e : Entry). raw_view e.1) es) ≡ values_of (map (keyed_entry k v) es)
raw-values k v [] = refl
raw-values k v (e ∷ es) = ap (λ (vs : List Val). valued (raw_view e.1) v ∷ vs) (raw-values k v es)

-- and fit
held-fit : (k v : Ty) (d : Bool) (p : RowPlace) (es : List Entry) → AllByRecursion (IsHeld k v d p) es → raws_fit v (map (λ (e : Entry). raw_view e.1) es) ≡ true
held-fit k v d p [] h = refl
held-fit k v d p (e ∷ es) h = and_from (fits (raw_view e.1) v) (raws_fit v (map (λ (x : Entry). raw_view x.1) es)) h.0.value (held-fit k v d p es h.1)

raw-length : (v : Ty) (es : List Entry) → length (raw_rows v (map (λ (e : Entry). raw_view e.1) es)) ≡ length es
raw-length v [] = refl
raw-length v (e ∷ es) = ap suc (raw-length v es)

-- ---- behind the last block

module _ (ask : TopAsk) (v : Ty) (before after : StoreSeen) (finding : Finding) (found : List Keyed) (report : TopReport) (typed : IsTypedTop before.zones ask v)
    (asked : IsAskedBy ask ask.key_type finding.first) (s : IsFoundTo ask v (length before.zones.lengths) before after found finding.first finding.skipped.items)
    (made : ReportsFinding v finding report) where
  abbrev entries : List Entry
  entries = finding.first.rows.entries

  rows-are : raw_rows (type_view report.dtype) report.rows ≡ raw_rows v (map (λ (e : Entry). raw_view e.1) entries)
  rows-are = ap₂ raw_rows made.dtype made.rows

  pub report-fits : raws_fit (type_view report.dtype) report.rows ≡ true
  report-fits = ap₂ raws_fit made.dtype made.rows ∙ held-fit ask.key_type v finding.first.descending (start_of (length before.zones.lengths)) entries s.holds.held

  first-are : raw_rows v (map (λ (e : Entry). raw_view e.1) entries) ≡ values_of (first_rows ask found)
  first-are =
      raw-values ask.key_type v entries ∙ ap values_of s.holds.rows
      ∙ ap₂ (λ (d : Bool) (n : ℕ). values_of (top d n found)) (sym asked.descending) (sym asked.count)

  pub find-report : nat_eq ask.count 0 ≡ false → WhereTold before.held (AgreesWith before.zones) → IsTopReport ask before after (top_view report)
  find-report some agrees =
      let zones = before.zones in
      let all = length zones.lengths in
      record {
        typed = subst (λ (u : Ty). IsTypedTop zones ask u) (sym made.dtype) typed;
        few =
            let same : length (raw_rows (type_view report.dtype) report.rows) ≡ length entries = ap length rows-are ∙ raw-length v entries in
            let few = held-few ask.key_type v found (start_of all) finding.first s.holds in
            omega (arith, same, few, asked.count);
        rows = told_both before.held (AgreesWith zones) (λ table. found ≡ found_before ask table zones all)
            (λ table. raw_rows (type_view report.dtype) report.rows ≡ top_rows_of ask table zones)
            (λ table d r.
            rows-are ∙ first-are ∙ ap (λ (rs : List Keyed). values_of (first_rows ask rs)) (r ∙ found-end ask table zones all (no_more_blocks zones table d)))
            agrees s.rows;
        skipped = told_both before.held (AgreesWith zones) (λ table. finding.skipped.items ≡ top_skipped_before ask table zones all)
            (λ table. report.skipped ≡ top_skipped ask table zones)
            (λ table d r. made.skipped ∙ r ∙ skipped-end ask table zones all (no_more_blocks zones table d)) agrees s.skipped;
        skips =
            let reached : length zones.lengths ≤ all = omega arith in
            subst (λ (ns : List ℕ). SkipsBlocks ask zones ns) (sym made.skipped) (skips-end ask zones all finding.skipped.items reached some s.skips_before);
        unbroken = told_both before.held (AgreesWith zones)
            (λ table. TopRuns (row_type table.columns) (top_phases_before ask table zones all) before.log after.log after.failed (Ok tt))
            (λ table. some_top_phase_breaks ask table zones ≡ false)
            (λ table d r. ap (list_any (slotted_breaks (row_type table.columns))) (sym (phases-end ask table zones all (no_more_blocks zones table d))) ∙ r.1)
            agrees s.ran;
        reads = record {
          made = s.among.0;
          grown = s.among.1;
          asked = among-all ask zones all s.among.0 some s.among.2;
          told = told_both before.held (AgreesWith zones)
              (λ table. TopRuns (row_type table.columns) (top_phases_before ask table zones all) before.log after.log after.failed (Ok tt))
              (λ table. s.among.0 ≡ top_reads ask table zones)
              (λ table d r.
              append_cancel_left before.log s.among.0 (slotted_reads (top_phases_before ask table zones all)) (sym s.among.1 ∙ r.0)
              ∙ ap slotted_reads (phases-end ask table zones all (no_more_blocks zones table d)))
              agrees s.ran;
        };
        unread = subst (λ (ns : List ℕ). list_any (is_read_of ns) s.among.0 ≡ false) (sym made.skipped) s.unread;
        unfailed = s.unfailed;
      }

-- ---- where no row is asked

none-asked : (ask : TopAsk) (zones : Zones) (found : List Keyed) (i : ℕ) → nat_eq ask.count 0 ≡ true → top_skips ask zones found i ≡ true
none-asked ask zones found i none = ap (λ (b : Bool). b || rules_out zones (bound_slots ask (bound_before ask found)) i (bounded_filter ask)) none

-- the phases of a block that isn't skipped
abbrev phases_kept : TopAsk → Ty → Zones → List Keyed → ℕ × List Val → List SlottedPhase
phases_kept ask t zones found b =
    map (slotted (bound_slots ask (bound_before ask found))) (block_phases t (bound_slots ask (bound_before ask found)) (bounded_filter ask) (keyed_projection ask) b)

no-phases : (ask : TopAsk) (t : Ty) (zones : Zones) (found : List Keyed) (bs : List (ℕ × List Val)) → nat_eq ask.count 0 ≡ true → phases_over ask t zones found bs ≡ []
no-phases ask t zones found [] none = refl
no-phases ask t zones found (b ∷ bs) none =
    ap (λ (c : Bool). cond c [] (phases_kept ask t zones found b) ++ phases_over ask t zones (found_with ask t zones found b) bs) (none-asked ask zones found b.0 none)
    ∙ no-phases ask t zones (found_with ask t zones found b) bs none

-- a table's blocks are numbered as its zones' lengths
numbers-same : (n : ℕ) (blocks : List (List Val)) → map (λ (b : ℕ × List Val). b.0) (numbered_from n blocks) ≡ map (λ (b : ℕ × ℕ). b.0) (numbered_from n (map length blocks))
numbers-same n [] = refl
numbers-same n (rows ∷ blocks) = ap (λ (ns : List ℕ). n ∷ ns) (numbers-same (suc n) blocks)

pub none-report : (ask : TopAsk) (v : Ty) (seen : StoreSeen) (report : TopReport) → nat_eq ask.count 0 ≡ true → IsTypedTop seen.zones ask v → WhereTold seen.held (AgreesWith seen.zones)
    → type_view report.dtype ≡ v → report.rows ≡ [] → report.skipped ≡ numbers_of seen.zones.lengths → IsTopReport ask seen seen (top_view report)
none-report ask v seen report none typed agrees dtype rows skipped =
    let zones = seen.zones in
    let no : ask.count ≡ 0 = eqb-true ask.count 0 none in
    let empty : raw_rows (type_view report.dtype) report.rows ≡ [] = ap (raw_rows (type_view report.dtype)) rows in
    record {
      typed = subst (λ (u : Ty). IsTypedTop zones ask u) (sym dtype) typed;
      few = let same = ap length empty in omega (arith, same);
      rows = told_so seen.held (AgreesWith zones) (λ table. raw_rows (type_view report.dtype) report.rows ≡ top_rows_of ask table zones)
          (λ table d. empty ∙ sym (count_of_none ask table zones no).0) agrees;
      skipped = told_so seen.held (AgreesWith zones) (λ table. report.skipped ≡ top_skipped ask table zones)
          (λ table d.
          skipped ∙ ap (λ (ls : List ℕ). map (λ (b : ℕ × ℕ). b.0) (numbered_from 0 ls)) (sym d.lengths)
          ∙ sym (numbers-same 0 table.blocks) ∙ sym (count_of_none ask table zones no).1) agrees;
      skips = subst (λ (ns : List ℕ). SkipsBlocks ask zones ns) (sym skipped) (skips-all ask zones);
      unbroken = told_so seen.held (AgreesWith zones) (λ table. some_top_phase_breaks ask table zones ≡ false)
          (λ table d. ap (list_any (slotted_breaks (row_type table.columns))) (no-phases ask (row_type table.columns) zones [] (numbered_from 0 table.blocks) none)) agrees;
      reads = record {
        made = [];
        grown = sym (append-nil seen.log);
        asked = tt;
        told = told_so seen.held (AgreesWith zones) (λ table. [] ≡ top_reads ask table zones)
            (λ table d. sym (ap slotted_reads (no-phases ask (row_type table.columns) zones [] (numbered_from 0 table.blocks) none))) agrees;
      };
      unread = refl;
      unfailed = refl;
    }

-- ---- refusals before the first block

pub key-refused : (f p : Tree) (key : Bytes) (descending : Bool) (count : ℕ) (seen : StoreSeen) (zones : Zones) (e : TopError) → zones ≡ seen.zones → GivesKey zones key (Err e)
    → IsTopOf f p key descending count seen seen (Err e)
key-refused f p key descending count seen zones errors.NoMemory z h = inl refl
key-refused f p key descending count seen zones errors.UnknownKey z h = (refl, ap (λ (w : Zones). field_type key w.columns) (sym z) ∙ h)
key-refused f p key descending count seen zones errors.BadKey z h = (refl, (h.0, ap (λ (w : Zones). field_type key w.columns) (sym z) ∙ h.1, h.2))
key-refused f p key descending count seen zones (errors.Scan e) z h = absurd h

pub type-refused : (f p : Tree) (key : Bytes) (descending : Bool) (count : ℕ) (seen : StoreSeen) (zones : Zones) (t : Ty) (e : ScanError) (d : TopError) → zones ≡ seen.zones
    → field_type key seen.zones.columns ≡ Some t → is_plain t ≡ true → GivesType zones f p (Err e) → d ≡ top_error e → IsTopOf f p key descending count seen seen (Err d)
type-refused f p key descending count seen zones t e d z column plain h why =
    subst (λ (x : TopError). IsTopOf f p key descending count seen seen (Err x)) (sym why) (by-kind (kind_of e) refl h)
  where
    by-kind : (k : ErrorKind) → kind_of e ≡ k → OnlyOfTypes k (scan_type (row_type zones.columns) [] f p ≡ Err e)
        → IsTopOf f p key descending count seen seen (Err (kind_top_error k e))
    by-kind of_memory same r = inl refl
    by-kind of_text same r = absurd r
    by-kind of_types same r =
        subst (λ (k : ErrorKind). IsTopUnscanned k f p key descending count seen seen e) (sym same)
        ((t, column, plain), (refl, ap (λ (w : Zones). scan_type (row_type w.columns) [] f p) (sym z) ∙ r))
    by-kind (of_break cause) same r = absurd r
    by-kind of_read same r = absurd r

-- ---- how typed first rows end

pub ends-so : (f p : Tree) (key : Bytes) (descending : Bool) (count : ℕ) (t v : Ty) (before after : StoreSeen) (e : TopError) → EndsTop (top_ask f p key descending count t) v before after (Err e)
    → IsTopOf f p key descending count before after (Err e)
ends-so f p key descending count t v before after errors.NoMemory (inl h) = inl h
ends-so f p key descending count t v before after errors.NoMemory (inr h) = inr (t, h)
ends-so f p key descending count t v before after errors.UnknownKey h = absurd h
ends-so f p key descending count t v before after errors.BadKey h = absurd h
ends-so f p key descending count t v before after (errors.Scan scans.NoMemory) h = absurd h
ends-so f p key descending count t v before after (errors.Scan scans.Overflow) h = (t, h)
ends-so f p key descending count t v before after (errors.Scan scans.BadCast) h = (t, h)
ends-so f p key descending count t v before after (errors.Scan scans.StoreFault) h = (t, h)
ends-so f p key descending count t v before after (errors.Scan _) h = absurd h

-- the finding stopped before its end
pub stopped-so : (ask : TopAsk) (v : Ty) (before after : StoreSeen) (e : ScanError) (d : TopError) → IsTopStopped ask before after e → d ≡ top_error e → EndsTop ask v before after (Err d)
stopped-so ask v before after e d h why = subst (λ (x : TopError). EndsTop ask v before after (Err x)) (sym why) (by-error e h)
  where
    by-error : (x : ScanError) → IsTopStopped ask before after x → EndsTop ask v before after (Err (top_error x))
    by-error scans.NoMemory k = inr k
    by-error scans.Overflow k = k
    by-error scans.BadCast k = k
    by-error scans.StoreFault k = k
    by-error _ k = absurd k

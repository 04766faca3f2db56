-- A scan from its first block to its end: how far it has come, one block more, and each way in which it ends.
use Rattle.std.proofs.Common.{◌≡◌, refl, ap, sym, ◌∙◌, ℕ, ◌+◌, ◌<◌, ◌≤◌, true, false, ◌||◌, Option, Some, None, List, [], ◌∷◌, ◌++◌, length, Result, Ok, Err, arith, subst, inr}
use Rattle.std.specs.List.{list_any, slice_get}
use Rattle.std.proofs.lemmas.List.{append-nil, append_assoc, append_cancel_left}
use Rattle.vx_dtype.specs.Types.{Ty}
use Rattle.vx_dtype.specs.Values.{Val}
use Rattle.vx_expr.specs.Trees.{Tree}
use Rattle.vx_semantics.specs.Meaning.{Slots}
use Rattle.vx_semantics.specs.Breaks.{Cause}
use Rattle.vx_semantics.specs.Asked.{asked_columns}
use Rattle.vx_semantics.specs.Pruning.{rules_out}
use Rattle.vx_semantics.specs.Tables.{Table, Zones, row_type}
use Rattle.vx_semantics.specs.Scans.{Phase, block_phases, block_rows, phase_breaks, first_breaks_by, phase_reads, phases_to_break, phases_of, reads_of, reads_to_break, some_phase_breaks, kept_rows_of}
use Rattle.vx_io.specs.Counts.{one_more}
use Rattle.vx_scan.specs.ErrorKinds.{ErrorKind, of_memory, of_text, of_types, of_break, of_read, kind_of}
use Rattle.vx_scan.specs.Stores.{Read, StoreSeen, WhereTold, AgreesWith, IsSameStore}
use Rattle.vx_scan.specs.Scanning.{scan_type, asked_reads, AreAmong, IsReport, IsScanBroken, IsStoreFault, IsCutOff, IsScanStopped, IsScanOf, asks_breaking}
use Rattle.vx_scan.specs.Reports.{Report}
use Rattle.vx_scan.specs.BlockRuns.{RunsUntil, Runs, block_asked, FailedAmong, BrokeBy, StopsBlock, RunsBlock, RunsBlockOf}
use Rattle.vx_scan.specs.Runs.{phases_before, rows_before, asked_before, GrowsAmong, IsScannedTo}
use Rattle.vx_scan.specs.declared.errors.ScanError.{ScanError}
use Rattle.vx_scan.proofs.AmongLemmas.{among_more, among_append}
use Rattle.vx_scan.proofs.RunLemmas.{logged, run_nothing, run_on, run_more, on_reads}
use Rattle.vx_scan.proofs.StepLemmas.{block_there, no_more_blocks, phases_before_out, phases_before_in, phases_before_end, phases_split, rows_before_out, rows_before_in, rows_before_end}
use Rattle.vx_scan.proofs.StepLemmas.{kept_numbers_out, kept_numbers_in, kept_numbers_end, skipped_numbers_out, skipped_numbers_in, skipped_numbers_end, block_kept}
use Rattle.vx_scan.proofs.StepLemmas.{asked_before_out, asked_before_in, asked_before_end, asked_split}

-- what holds of each table holds where one is told
pub told_all : (held : Option Table) (P : Table → Type 0) → ((table : Table) → P table) → WhereTold held P
told_all None P h = tt
told_all (Some table) P h = h table

pub told_so : (held : Option Table) (P Q : Table → Type 0) → ((table : Table) → P table → Q table) → WhereTold held P → WhereTold held Q
told_so None P Q h a = tt
told_so (Some table) P Q h a = h table a

pub told_both : (held : Option Table) (P Q R : Table → Type 0) → ((table : Table) → P table → Q table → R table) → WhereTold held P → WhereTold held Q → WhereTold held R
told_both None P Q R h a b = tt
told_both (Some table) P Q R h a b = h table a b

-- a store is the same as itself, and after two calls that leave it the same
pub same_store : (seen : StoreSeen) → IsSameStore seen seen
same_store seen = record { zones = refl; held = refl; faultless = refl; later = omega arith; quiet = λ none. refl }

pub same_after : (a b c : StoreSeen) → IsSameStore a b → IsSameStore b c → IsSameStore a c
same_after a b c s t = record {
  zones = t.zones ∙ s.zones;
  held = t.held ∙ s.held;
  faultless = t.faultless ∙ s.faultless;
  later = omega (arith, s.later, t.later);
  quiet = λ none. t.quiet (s.faultless ∙ none) ∙ s.quiet none;
}

-- its table agrees with its zones before where it does after
pub agrees_before : (before after : StoreSeen) → IsSameStore before after → WhereTold after.held (AgreesWith after.zones) → WhereTold before.held (AgreesWith before.zones)
agrees_before before after s h =
    subst (λ (zones : Zones). WhereTold before.held (AgreesWith zones)) s.zones
    (subst (λ (held : Option Table). WhereTold held (AgreesWith after.zones)) s.held h)

one_more_later : (a b c : ℕ) → a ≤ b → one_more b ≤ c → one_more a ≤ c
one_more_later a b c h k = grind (arith, h, k)

-- before the first block
pub scan_start : (slots : Slots) (f p : Tree) (seen : StoreSeen) → IsScannedTo slots f p 0 seen seen [] [] []
scan_start slots f p seen = record {
  same = same_store seen;
  unfailed = refl;
  among = ([], sym (append-nil seen.log), tt);
  ran = told_all seen.held
      (λ table. Runs (row_type table.columns) slots (phases_before table seen.zones slots f p 0) seen.log seen.log seen.failed (Ok tt))
      (λ table. run_nothing (row_type table.columns) slots seen.log seen.failed);
  rows_are = told_all seen.held (λ table. [] ≡ rows_before table seen.zones slots f p 0) (λ table. refl);
  kept = refl;
  skipped = refl;
}

-- behind a block that is ruled out
pub scan_skips : (slots : Slots) (f p : Tree) (i : ℕ) (before after : StoreSeen) (rows : List Val) (keeps skips more : List ℕ)
    → WhereTold before.held (AgreesWith before.zones) → i < length before.zones.lengths → rules_out before.zones slots i f ≡ true → more ≡ skips ++ (i ∷ [])
    → IsScannedTo slots f p i before after rows keeps skips → IsScannedTo slots f p (i + 1) before after rows keeps more
scan_skips slots f p i before after rows keeps skips more a l e m s =
    let zones = before.zones in
    record {
      same = s.same;
      unfailed = s.unfailed;
      among = subst (λ (all : List Read). GrowsAmong all before.log after.log) (sym (asked_before_out zones slots f p i l e)) s.among;
      ran = told_both before.held (AgreesWith zones)
          (λ table. Runs (row_type table.columns) slots (phases_before table zones slots f p i) before.log after.log after.failed (Ok tt))
          (λ table. Runs (row_type table.columns) slots (phases_before table zones slots f p (i + 1)) before.log after.log after.failed (Ok tt))
          (λ table d r. subst (λ (phases : List Phase). Runs (row_type table.columns) slots phases before.log after.log after.failed (Ok tt))
          (sym (phases_before_out table zones slots f p i _ (block_there zones table i d l) e)) r)
          a s.ran;
      rows_are = told_both before.held (AgreesWith zones)
          (λ table. rows ≡ rows_before table zones slots f p i) (λ table. rows ≡ rows_before table zones slots f p (i + 1))
          (λ table d r. r ∙ sym (rows_before_out table zones slots f p i _ (block_there zones table i d l) e))
          a s.rows_are;
      kept = s.kept ∙ sym (kept_numbers_out zones slots f i l e);
      skipped = m ∙ ap (λ (ns : List ℕ). ns ++ (i ∷ [])) s.skipped ∙ sym (skipped_numbers_in zones slots f i l e);
    }

-- what is known of the run of a kept block where the table is told
told_block : (slots : Slots) (f p : Tree) (i : ℕ) (before middle after : StoreSeen) (was now : List Val) (result : Result (Unit {0}) ScanError) → IsSameStore before middle
    → RunsBlock slots f p i middle after was now result → WhereTold before.held (λ table. RunsBlockOf slots f p i table middle after was now result)
told_block slots f p i before middle after was now result s r =
    subst (λ (held : Option Table). WhereTold held (λ table. RunsBlockOf slots f p i table middle after was now result)) s.held r.told

-- the reads before a kept block and then its own are among those that are asked up to its end
asked_with : (slots : Slots) (f p : Tree) (i : ℕ) (before middle : StoreSeen) (front made : List Read) → IsSameStore before middle
    → i < length before.zones.lengths → rules_out before.zones slots i f ≡ false
    → AreAmong front (asked_before before.zones slots f p i) → AreAmong made (block_asked middle.zones f p i)
    → AreAmong (front ++ made) (asked_before before.zones slots f p (i + 1))
asked_with slots f p i before middle front made s l e h k =
    let zones = before.zones in
    let own = subst (λ (z : Zones). AreAmong made (block_asked z f p i)) s.zones k in
    subst (λ (all : List Read). AreAmong (front ++ made) all) (sym (asked_before_in zones slots f p i l e))
    (among_append front made (asked_before zones slots f p i) (block_asked zones f p i) h own)

-- behind a kept block that came to its end
pub scan_keeps : (slots : Slots) (f p : Tree) (i : ℕ) (before middle after : StoreSeen) (was now : List Val) (keeps skips more : List ℕ)
    → i < length before.zones.lengths → rules_out before.zones slots i f ≡ false → more ≡ keeps ++ (i ∷ [])
    → IsScannedTo slots f p i before middle was keeps skips → RunsBlock slots f p i middle after was now (Ok tt)
    → IsScannedTo slots f p (i + 1) before after now more skips
scan_keeps slots f p i before middle after was now keeps skips more l e m s r =
    let zones = before.zones in
    let block = told_block slots f p i before middle after was now (Ok tt) s.same r in
    record {
      same = same_after before middle after s.same r.same;
      unfailed = r.ends ∙ s.unfailed;
      among = (
        s.among.0 ++ r.made,
        logged before.log middle.log after.log s.among.0 r.made s.among.1 r.grown,
        asked_with slots f p i before middle s.among.0 r.made s.same l e s.among.2 r.asked,
      );
      ran = told_both before.held
          (λ table. Runs (row_type table.columns) slots (phases_before table zones slots f p i) before.log middle.log middle.failed (Ok tt))
          (λ table. RunsBlockOf slots f p i table middle after was now (Ok tt))
          (λ table. Runs (row_type table.columns) slots (phases_before table zones slots f p (i + 1)) before.log after.log after.failed (Ok tt))
          (λ table a b.
          let t = row_type table.columns in
          subst (λ (phases : List Phase). Runs t slots phases before.log after.log after.failed (Ok tt))
          (sym (phases_before_in table zones slots f p i b.held_rows b.there e))
          (run_on t slots (phases_before table zones slots f p i) (block_phases t slots f p (i, b.held_rows)) before.log middle.log after.log middle.failed after.failed (Ok tt) a b.ran))
          s.ran block;
      rows_are = told_both before.held
          (λ table. was ≡ rows_before table zones slots f p i)
          (λ table. RunsBlockOf slots f p i table middle after was now (Ok tt))
          (λ table. now ≡ rows_before table zones slots f p (i + 1))
          (λ table a b.
          b.adds ∙ ap (λ (rows : List Val). rows ++ block_rows (row_type table.columns) slots f p b.held_rows) a
          ∙ sym (rows_before_in table zones slots f p i b.held_rows b.there e))
          s.rows_are block;
      kept = m ∙ ap (λ (ns : List ℕ). ns ++ (i ∷ [])) s.kept ∙ sym (kept_numbers_in zones slots f i l e);
      skipped = s.skipped ∙ sym (skipped_numbers_out zones slots f i l e);
    }

-- behind the last block
pub scan_report : (slots : Slots) (f p : Tree) (before after : StoreSeen) (rows : List Val) (keeps skips : List ℕ) (report : Report)
    → WhereTold before.held (AgreesWith before.zones) → IsScannedTo slots f p (length before.zones.lengths) before after rows keeps skips
    → scan_type (row_type before.zones.columns) slots f p ≡ Ok report.ty → report.rows ≡ rows → report.kept ≡ keeps → report.skipped ≡ skips
    → report.filter_columns ≡ asked_columns (row_type before.zones.columns) f → report.projection_columns ≡ asked_columns (row_type before.zones.columns) p
    → IsReport slots f p before after report
scan_report slots f p before after rows keeps skips report a s typed values kept skipped asked projected =
    let zones = before.zones in
    let all = length zones.lengths in
    let end : length zones.lengths ≤ all = omega arith in
    record {
      typed = typed;
      rows = told_both before.held (AgreesWith zones) (λ table. rows ≡ rows_before table zones slots f p all)
          (λ table. report.rows ≡ kept_rows_of table zones slots f p)
          (λ table d r. values ∙ r ∙ rows_before_end table zones slots f p all (no_more_blocks zones table d))
          a s.rows_are;
      unbroken = told_both before.held (AgreesWith zones)
          (λ table. Runs (row_type table.columns) slots (phases_before table zones slots f p all) before.log after.log after.failed (Ok tt))
          (λ table. some_phase_breaks table zones slots f p ≡ false)
          (λ table d r. ap (list_any (phase_breaks (row_type table.columns) slots)) (sym (phases_before_end table zones slots f p all (no_more_blocks zones table d))) ∙ r.1)
          a s.ran;
      kept = kept ∙ s.kept ∙ kept_numbers_end zones slots f all end;
      skipped = skipped ∙ s.skipped ∙ skipped_numbers_end zones slots f all end;
      filter_columns = asked;
      projection_columns = projected;
      reads = record {
        made = s.among.0;
        grown = s.among.1;
        asked = subst (λ (reads : List Read). AreAmong s.among.0 reads) (asked_before_end zones slots f p all end) s.among.2;
        told = told_both before.held (AgreesWith zones)
            (λ table. Runs (row_type table.columns) slots (phases_before table zones slots f p all) before.log after.log after.failed (Ok tt))
            (λ table. s.among.0 ≡ reads_of table zones slots f p)
            (λ table d r.
            append_cancel_left before.log s.among.0 (phase_reads (phases_before table zones slots f p all)) (sym s.among.1 ∙ r.0)
            ∙ ap phase_reads (phases_before_end table zones slots f p all (no_more_blocks zones table d)))
            a s.ran;
      };
      unfailed = s.unfailed;
    }

-- where the run of a block ended before its end, so did that of all phases
run_whole : (table : Table) (zones : Zones) (slots : Slots) (f p : Tree) (i : ℕ) (rows : List Val) (before middle after : List Read) (was failed : Option Read) (e : ScanError)
    → slice_get table.blocks i ≡ Some rows → rules_out zones slots i f ≡ false
    → Runs (row_type table.columns) slots (phases_before table zones slots f p i) before middle was (Ok tt)
    → Runs (row_type table.columns) slots (block_phases (row_type table.columns) slots f p (i, rows)) middle after failed (Err e)
    → Runs (row_type table.columns) slots (phases_of table zones slots f p) before after failed (Err e)
run_whole table zones slots f p i rows before middle after was failed e there out h k =
    let t = row_type table.columns in
    let front = phases_before table zones slots f p i in
    let own = block_phases t slots f p (i, rows) in
    let split = phases_split table zones slots f p (i + 1) in
    let phases : phases_of table zones slots f p ≡ (front ++ own) ++ split.0 =
    split.1 ∙ ap (λ (ps : List Phase). ps ++ split.0) (phases_before_in table zones slots f p i rows there out) in
    subst (λ (ps : List Phase). Runs t slots ps before after failed (Err e)) (sym phases)
    (run_more t slots (front ++ own) split.0 before after failed e (run_on t slots front own before middle after was failed (Err e) h k))

-- a scan that has come to a kept block whose run ended before its end
record Stops (slots : Slots) (f p : Tree) (i : ℕ) (before middle after : StoreSeen) (made : List Read) (k : ErrorKind) : Type 0 where
  there : i < length before.zones.lengths
  kept : rules_out before.zones slots i f ≡ false
  same : IsSameStore before middle
  unfailed : middle.failed ≡ before.failed
  front : List Read
  came : middle.log ≡ before.log ++ front
  grown : after.log ≡ middle.log ++ made
  among : AreAmong front (asked_before before.zones slots f p i)
  ran : WhereTold before.held (λ table. RunsUntil k (row_type table.columns) slots (phases_of table before.zones slots f p) before.log after.log after.failed)

stops : (slots : Slots) (f p : Tree) (i : ℕ) (before middle after : StoreSeen) (was now : List Val) (keeps skips : List ℕ) (e : ScanError)
    → i < length before.zones.lengths → rules_out before.zones slots i f ≡ false
    → IsScannedTo slots f p i before middle was keeps skips → (r : RunsBlock slots f p i middle after was now (Err e))
    → Stops slots f p i before middle after r.made (kind_of e)
stops slots f p i before middle after was now keeps skips e l out s r =
    let zones = before.zones in
    record {
      there = l;
      kept = out;
      same = s.same;
      unfailed = s.unfailed;
      front = s.among.0;
      came = s.among.1;
      grown = r.grown;
      among = s.among.2;
      ran = told_both before.held
          (λ table. Runs (row_type table.columns) slots (phases_before table zones slots f p i) before.log middle.log middle.failed (Ok tt))
          (λ table. RunsBlockOf slots f p i table middle after was now (Err e))
          (λ table. Runs (row_type table.columns) slots (phases_of table zones slots f p) before.log after.log after.failed (Err e))
          (λ table a b. run_whole table zones slots f p i b.held_rows before.log middle.log after.log middle.failed after.failed e b.there out a b.ran)
          s.ran (told_block slots f p i before middle after was now (Err e) s.same r);
    }

-- its reads are asked ones
asked_all : (slots : Slots) (f p : Tree) (i : ℕ) (before middle : StoreSeen) (front made : List Read) → IsSameStore before middle
    → i < length before.zones.lengths → rules_out before.zones slots i f ≡ false
    → AreAmong front (asked_before before.zones slots f p i) → AreAmong made (block_asked middle.zones f p i)
    → AreAmong (front ++ made) (asked_reads before.zones slots f p)
asked_all slots f p i before middle front made s l e h k =
    let split = asked_split before.zones slots f p (i + 1) in
    subst (λ (all : List Read). AreAmong (front ++ made) all) (sym split.1)
    (among_more (front ++ made) (asked_before before.zones slots f p (i + 1)) split.0 (asked_with slots f p i before middle front made s l e h k))

-- by a cause
scan_broke : (c : Cause) (slots : Slots) (f p : Tree) (i : ℕ) (before middle after : StoreSeen) (made : List Read) (ty : Ty)
    → scan_type (row_type before.zones.columns) slots f p ≡ Ok ty → Stops slots f p i before middle after made (of_break c)
    → AreAmong made (block_asked middle.zones f p i) → BrokeBy c f p middle after → IsScanBroken c slots f p before after
scan_broke c slots f p i before middle after made ty typed s asked b =
    let zones = before.zones in
    let all = s.front ++ made in
    let grown : after.log ≡ before.log ++ all = logged before.log middle.log after.log s.front made s.came s.grown in
    let Ran : Table → Type 0 = λ table. RunsUntil (of_break c) (row_type table.columns) slots (phases_of table zones slots f p) before.log after.log after.failed in
    record {
      ty = ty;
      typed = typed;
      asks = subst (λ (z : Zones). (asks_breaking c (row_type z.columns) f || asks_breaking c (row_type z.columns) p) ≡ true) s.same.zones b.1;
      kept = block_kept zones slots f i s.there s.kept;
      first_breaks = told_so before.held Ran (λ table. first_breaks_by c (row_type table.columns) slots (phases_of table zones slots f p) ≡ true)
          (λ table r. r.1) s.ran;
      reads = record {
        made = all;
        grown = grown;
        asked = asked_all slots f p i before middle s.front made s.same s.there s.kept s.among asked;
        told = told_so before.held Ran (λ table. all ≡ reads_to_break table zones slots f p)
            (λ table r. append_cancel_left before.log all (reads_to_break table zones slots f p) (sym grown ∙ r.0)) s.ran;
      };
      unfailed = b.0 ∙ s.unfailed;
    }

-- the read that failed
failed_read : (all made : List Read) (failed : Option Read) → FailedAmong all made failed → (read : Read) × (failed ≡ Some read) × AreAmong (made ++ (read ∷ [])) all
failed_read all made None h = absurd h
failed_read all made (Some read) h = (read, refl, h)

-- at a read that failed
scan_failed : (slots : Slots) (f p : Tree) (i : ℕ) (before middle after : StoreSeen) (made : List Read) (ty : Ty)
    → scan_type (row_type before.zones.columns) slots f p ≡ Ok ty → Stops slots f p i before middle after made of_read
    → AreAmong made (block_asked middle.zones f p i) → one_more middle.faults ≤ after.faults → FailedAmong (block_asked middle.zones f p i) made after.failed
    → IsStoreFault slots f p before after
scan_failed slots f p i before middle after made ty typed s asked risen failed =
    let zones = before.zones in
    let all = s.front ++ made in
    let grown : after.log ≡ before.log ++ all = logged before.log middle.log after.log s.front made s.came s.grown in
    let last = failed_read (block_asked middle.zones f p i) made after.failed failed in
    record {
      ty = ty;
      typed = typed;
      risen = one_more_later before.faults middle.faults after.faults s.same.later risen;
      read = last.0;
      failed = last.1;
      reads = record {
        made = all;
        grown = grown;
        asked = asked_all slots f p i before middle s.front made s.same s.there s.kept s.among asked;
        told = told_so before.held
            (λ table. RunsUntil of_read (row_type table.columns) slots (phases_of table zones slots f p) before.log after.log after.failed)
            (λ table. (left : List Read) × (reads_to_break table zones slots f p ≡ all ++ (last.0 ∷ left)))
            (λ table r.
            let done : r.1 ≡ all = append_cancel_left before.log r.1 all (sym r.4 ∙ grown) in
            let so : Some r.0 ≡ Some last.0 = sym r.3 ∙ last.1 in
            let same : r.0 ≡ last.0 = cc in
            (r.2, r.5 ∙ (λ j. done j ++ (same j ∷ r.2))))
            s.ran;
      };
      next_asked = subst (λ (reads : List Read). AreAmong reads (asked_reads zones slots f p)) (sym (append_assoc s.front made (last.0 ∷ [])))
          (asked_all slots f p i before middle s.front (made ++ (last.0 ∷ [])) s.same s.there s.kept s.among last.2);
    }

-- without memory
scan_cut : (slots : Slots) (f p : Tree) (i : ℕ) (before middle after : StoreSeen) (made : List Read) (ty : Ty)
    → scan_type (row_type before.zones.columns) slots f p ≡ Ok ty → Stops slots f p i before middle after made of_memory
    → AreAmong made (block_asked middle.zones f p i) → after.failed ≡ middle.failed → IsCutOff slots f p before after
scan_cut slots f p i before middle after made ty typed s asked unfailed =
    let zones = before.zones in
    let all = s.front ++ made in
    let grown : after.log ≡ before.log ++ all = logged before.log middle.log after.log s.front made s.came s.grown in
    record {
      ty = ty;
      typed = typed;
      reads = record {
        made = all;
        grown = grown;
        asked = asked_all slots f p i before middle s.front made s.same s.there s.kept s.among asked;
        told = told_so before.held
            (λ table. RunsUntil of_memory (row_type table.columns) slots (phases_of table zones slots f p) before.log after.log after.failed)
            (λ table. (left : List Read) × (reads_to_break table zones slots f p ≡ all ++ left))
            (λ table r.
            let done : r.0 ≡ all = append_cancel_left before.log r.0 all (sym r.2 ∙ grown) in
            (r.1, r.3 ∙ ap (λ (reads : List Read). reads ++ r.1) done))
            s.ran;
      };
      unfailed = unfailed ∙ s.unfailed;
    }

-- a scan ends as the run of a kept block that ended before its end
pub scan_stops : (slots : Slots) (f p : Tree) (i : ℕ) (before middle after : StoreSeen) (was now : List Val) (keeps skips : List ℕ) (ty : Ty) (e : ScanError)
    → scan_type (row_type before.zones.columns) slots f p ≡ Ok ty → i < length before.zones.lengths → rules_out before.zones slots i f ≡ false
    → IsScannedTo slots f p i before middle was keeps skips → RunsBlock slots f p i middle after was now (Err e) → IsScanOf slots f p before after (Err e)
scan_stops slots f p i before middle after was now keeps skips ty e typed l out s r =
    by (kind_of e) (stops slots f p i before middle after was now keeps skips e l out s r) r.ends
  where
    by : (k : ErrorKind) → Stops slots f p i before middle after r.made k → StopsBlock k f p i middle after r.made → IsScanStopped k slots f p before after e
    by of_memory so ends = inr (scan_cut slots f p i before middle after r.made ty typed so r.asked ends)
    by of_text so ends = ends
    by of_types so ends = absurd ends
    by (of_break cause) so ends = scan_broke cause slots f p i before middle after r.made ty typed so r.asked ends
    by of_read so ends = scan_failed slots f p i before middle after r.made ty typed so r.asked ends.0 ends.1

-- there was no memory between two blocks
pub scan_stops_between : (slots : Slots) (f p : Tree) (i : ℕ) (before after : StoreSeen) (rows : List Val) (keeps skips : List ℕ) (ty : Ty)
    → scan_type (row_type before.zones.columns) slots f p ≡ Ok ty → IsScannedTo slots f p i before after rows keeps skips
    → IsCutOff slots f p before after
scan_stops_between slots f p i before after rows keeps skips ty typed s =
    let zones = before.zones in
    let split = asked_split zones slots f p i in
    record {
      ty = ty;
      typed = typed;
      reads = record {
        made = s.among.0;
        grown = s.among.1;
        asked = subst (λ (all : List Read). AreAmong s.among.0 all) (sym split.1) (among_more s.among.0 (asked_before zones slots f p i) split.0 s.among.2);
        told = told_so before.held
            (λ table. Runs (row_type table.columns) slots (phases_before table zones slots f p i) before.log after.log after.failed (Ok tt))
            (λ table. (left : List Read) × (reads_to_break table zones slots f p ≡ s.among.0 ++ left))
            (λ table r.
            let t = row_type table.columns in
            let front = phases_before table zones slots f p i in
            let rest = phases_split table zones slots f p i in
            let done : phase_reads front ≡ s.among.0 = append_cancel_left before.log (phase_reads front) s.among.0 (sym r.0 ∙ s.among.1) in (
              phase_reads (phases_to_break t slots rest.0),
              ap (λ (ps : List Phase). phase_reads (phases_to_break t slots ps)) rest.1
                  ∙ on_reads t slots front rest.0 r.1
                  ∙ ap (λ (reads : List Read). reads ++ phase_reads (phases_to_break t slots rest.0)) done,
            ))
            s.ran;
      };
      unfailed = s.unfailed;
    }

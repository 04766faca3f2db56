-- The finding of first rows from the first block to the last: how far it has come, one block more, and each way in which it ends.
use Rattle.std.proofs.Common.{◌≡◌, refl, ap, sym, ◌∙◌, ℕ, ◌+◌, ◌<◌, ◌≤◌, Bool, true, false, ◌||◌, Option, Some, None, List, [], ◌∷◌, ◌++◌, map, length, Result, Ok, Err, append-nil, append_assoc, arith, subst, inl, inr}
use Rattle.std.specs.Prelude.{nat_eq}
use Rattle.std.specs.List.{list_any}
use Rattle.std.proofs.lemmas.List.{append_cancel_left}
use Rattle.vx_dtype.specs.Types.{Ty}
use Rattle.vx_dtype.specs.Values.{Val}
use Rattle.vx_semantics.specs.Breaks.{Cause, by_sum, by_cast}
use Rattle.vx_semantics.specs.Pruning.{rules_out}
use Rattle.vx_semantics.specs.Tables.{Table, Zones, row_type}
use Rattle.vx_semantics.specs.Scans.{block_phases}
use Rattle.vx_io.specs.Counts.{one_more}
use Rattle.vx_laws_topk.specs.TopRows.{Keyed, TopAsk, bounded_filter, bound_before, bound_slots, top_skips, block_keyed}
use Rattle.vx_laws_topk.specs.TopLaws.{has_no_slot}
use Rattle.vx_laws_topk.specs.TopPhases.{SlottedPhase, keyed_projection, top_phases, top_asked, top_reads_to_break, first_top_breaks_by}
use Rattle.vx_laws_topk.specs.BoundLaws.{unpacked}
use Rattle.vx_laws_topk.proofs.BoundedFilters.{block_rows_are_packed, packed_is_unpacked}
use Rattle.vx_scan.specs.Stores.{Read, StoreSeen, WhereTold, AgreesWith, IsSameStore}
use Rattle.vx_scan.specs.Scanning.{AreAmong, asks_breaking}
use Rattle.vx_scan.specs.BlockRuns.{block_asked, FailedAmong, BrokeBy, RunsBlockOf}
use Rattle.vx_scan.specs.declared.errors.ScanError.{ScanError}
use Rattle.vx_scan.specs.declared.errors.ScanError.TheVariants as errors
use Rattle.vx_scan.proofs.RunLemmas.{logged}
use Rattle.vx_scan.proofs.ScanLemmas.{told_all, told_so, told_both, same_store, same_after}
use Rattle.vx_scan.proofs.StepLemmas.{block_there}
use Rattle.vx_topk.specs.FirstRows.{HoldFirst, start_of}
use Rattle.vx_topk.specs.RuledRuns.{AreRuledBehind}
use Rattle.vx_topk.specs.TopEnds.{is_read_of, IsTypedTop, IsTopBroken, IsTopFault, IsTopCutOff}
use Rattle.vx_topk.specs.TopRuns.{TopRuns, top_phases_before, found_before, top_skipped_before, top_asked_before, SkipsBefore, IsFoundTo, RunsUnder, Skips, Keeps, Ends, EndsBehind, TakesTurn, IsTopStopped, FindsTo}
use Rattle.vx_topk.specs.declared.finding.Finding.{Finding}
use Rattle.vx_topk.specs.declared.first_rows.FirstRows.{FirstRows}
use Rattle.vx_topk.proofs.TopRunLemmas.{slotted, top_runs, top_run_nothing, top_run_on, top_run_more, top_run_cut}
use Rattle.vx_topk.proofs.TopStepLemmas.{phases-out, found-out, skipped-out, phases-in, found-in, skipped-in, phases-split, not-ruled, among-out, among-in, among-all, block-there, asks-same}
use Rattle.vx_topk.proofs.SkipLemmas.{skips-out, skips-in}
use Rattle.vx_topk.proofs.UnreadLemmas.{unread-here, unread-out, unread-in}

one_more_later : (a b c : ℕ) → a ≤ b → one_more b ≤ c → one_more a ≤ c
one_more_later a b c h k = grind (arith, h, k)

-- before the first block
pub find-start : (ask : TopAsk) (v : Ty) (seen : StoreSeen) (first : FirstRows) → HoldFirst ask.key_type v [] (start_of 0) first → IsFoundTo ask v 0 seen seen [] first []
find-start ask v seen first h =
    let zones = seen.zones in
    record {
      same = same_store seen;
      unfailed = refl;
      among = ([], sym (append-nil seen.log), tt);
      holds = h;
      rows = told_all seen.held (λ table. [] ≡ found_before ask table zones 0) (λ table. refl);
      ran = told_all seen.held (λ table. TopRuns (row_type table.columns) (top_phases_before ask table zones 0) seen.log seen.log seen.failed (Ok tt))
          (λ table. top_run_nothing (row_type table.columns) seen.log seen.failed);
      skipped = told_all seen.held (λ table. [] ≡ top_skipped_before ask table zones 0) (λ table. refl);
      skips_before = record { blocks = tt; ruled_out = tt };
      unread = refl;
    }

-- what was found is what is told, where a test is asked of it
found-test : (ask : TopAsk) (zones : Zones) (found other : List Keyed) (i : ℕ) (b : Bool) → found ≡ other → top_skips ask zones found i ≡ b → top_skips ask zones other i ≡ b
found-test ask zones found other i b e h = ap (λ (rs : List Keyed). top_skips ask zones rs i) (sym e) ∙ h

-- behind a block that is skipped
pub find-skips : (ask : TopAsk) (v : Ty) (i : ℕ) (before middle after : StoreSeen) (found : List Keyed) (was now : Finding)
    → WhereTold before.held (AgreesWith before.zones) → i < length before.zones.lengths → IsFoundTo ask v i before middle found was.first was.skipped.items
    → Skips ask v found i middle after was now → IsFoundTo ask v (i + 1) before after found now.first now.skipped.items
find-skips ask v i before middle after found was now agrees l s turn =
    let zones = before.zones in
    let out : top_skips ask zones found i ≡ true = ap (λ (z : Zones). top_skips ask z found i) (sym s.same.zones) ∙ turn.out in
    let Told : Table → Type 0 = λ table. AgreesWith zones table × (found ≡ found_before ask table zones i) in
    let told : WhereTold before.held Told =
    told_both before.held (AgreesWith zones) (λ table. found ≡ found_before ask table zones i) Told (λ table a b. (a, b)) agrees s.rows in
    subst (λ (seen : StoreSeen). IsFoundTo ask v (i + 1) before seen found now.first now.skipped.items) (sym turn.stays)
    (record {
      same = s.same;
      unfailed = s.unfailed;
      among = (s.among.0, s.among.1, among-out ask zones i s.among.0 l s.among.2);
      holds = turn.holds;
      rows = told_so before.held Told (λ table. found ≡ found_before ask table zones (i + 1))
          (λ table d. d.1 ∙ sym (found-out ask table zones i _ (block_there zones table i d.0 l) (found-test ask zones found (found_before ask table zones i) i true d.1 out)))
          told;
      ran = told_both before.held Told
          (λ table. TopRuns (row_type table.columns) (top_phases_before ask table zones i) before.log middle.log middle.failed (Ok tt))
          (λ table. TopRuns (row_type table.columns) (top_phases_before ask table zones (i + 1)) before.log middle.log middle.failed (Ok tt))
          (λ table d r.
          subst (λ (phases : List SlottedPhase). TopRuns (row_type table.columns) phases before.log middle.log middle.failed (Ok tt))
          (sym (phases-out ask table zones i _ (block_there zones table i d.0 l) (found-test ask zones found (found_before ask table zones i) i true d.1 out))) r)
          told s.ran;
      skipped = told_both before.held Told (λ table. was.skipped.items ≡ top_skipped_before ask table zones i)
          (λ table. now.skipped.items ≡ top_skipped_before ask table zones (i + 1))
          (λ table d r.
          turn.skipped ∙ ap (λ (ns : List ℕ). ns ++ i ∷ []) r
          ∙ sym (skipped-out ask table zones i _ (block_there zones table i d.0 l) (found-test ask zones found (found_before ask table zones i) i true d.1 out)))
          told s.skipped;
      skips_before = subst (λ (ns : List ℕ). SkipsBefore ask zones (i + 1) ns) (sym turn.skipped) (skips-out ask zones i was.skipped.items l s.skips_before);
      unread = subst (λ (ns : List ℕ). list_any (is_read_of ns) s.among.0 ≡ false) (sym turn.skipped)
          (unread-out was.skipped.items i s.among.0 s.unread (unread-here ask zones i s.among.0 s.among.2));
    })

-- what is known of the run of a block that isn't skipped, where the table is told
told-block : (ask : TopAsk) (i : ℕ) (before middle after : StoreSeen) (found : List Keyed) (rows : List Val) (result : Result (Unit {0}) ScanError) → IsSameStore before middle
    → RunsUnder ask found i middle after rows result
    → WhereTold before.held (λ table. RunsBlockOf (bound_slots ask (bound_before ask found)) (bounded_filter ask) (keyed_projection ask) i table middle after [] rows result)
told-block ask i before middle after found rows result s r =
    subst (λ (held : Option Table).
    WhereTold held (λ table. RunsBlockOf (bound_slots ask (bound_before ask found)) (bounded_filter ask) (keyed_projection ask) i table middle after [] rows result)) s.held r.told

-- its run through its phases, and then those of all blocks up to it
run-with : (ask : TopAsk) (table : Table) (zones : Zones) (found : List Keyed) (i : ℕ) (middle after : StoreSeen) (before : List Read) (rows : List Val)
    (result : Result (Unit {0}) ScanError) → found ≡ found_before ask table zones i → top_skips ask zones found i ≡ false
    → TopRuns (row_type table.columns) (top_phases_before ask table zones i) before middle.log middle.failed (Ok tt)
    → RunsBlockOf (bound_slots ask (bound_before ask found)) (bounded_filter ask) (keyed_projection ask) i table middle after [] rows result
    → TopRuns (row_type table.columns) (top_phases_before ask table zones (i + 1)) before after.log after.failed result
run-with ask table zones found i middle after before rows result same kept h k =
    let t = row_type table.columns in
    let slots = bound_slots ask (bound_before ask found) in
    let own = map (slotted slots) (block_phases t slots (bounded_filter ask) (keyed_projection ask) (i, k.held_rows)) in
    let phases : top_phases_before ask table zones (i + 1) ≡ top_phases_before ask table zones i ++ own =
    phases-in ask table zones i k.held_rows k.there (found-test ask zones found (found_before ask table zones i) i false same kept)
    ∙ ap (λ (rs : List Keyed). top_phases_before ask table zones i
    ++ map (slotted (bound_slots ask (bound_before ask rs))) (block_phases t (bound_slots ask (bound_before ask rs)) (bounded_filter ask) (keyed_projection ask) (i, k.held_rows)))
    (sym same) in
    subst (λ (ps : List SlottedPhase). TopRuns t ps before after.log after.failed result) (sym phases)
    (top_run_on t (top_phases_before ask table zones i) own before middle.log after.log middle.failed after.failed result h
    (top_runs t slots (block_phases t slots (bounded_filter ask) (keyed_projection ask) (i, k.held_rows)) middle.log after.log after.failed result k.ran))

-- the rows that it gave, unpacked, are those of the block with their keys
rows-with : (ask : TopAsk) (table : Table) (zones : Zones) (found : List Keyed) (i : ℕ) (middle after : StoreSeen) (rows : List Val)
    → found ≡ found_before ask table zones i → top_skips ask zones found i ≡ false
    → RunsBlockOf (bound_slots ask (bound_before ask found)) (bounded_filter ask) (keyed_projection ask) i table middle after [] rows (Ok tt)
    → found ++ map unpacked rows ≡ found_before ask table zones (i + 1)
rows-with ask table zones found i middle after rows same kept k =
    let t = row_type table.columns in
    let slots = bound_slots ask (bound_before ask found) in
    let keyed_rows = block_keyed ask t slots (bounded_filter ask) k.held_rows in
    let given : map unpacked rows ≡ keyed_rows =
    ap (map unpacked) (k.adds ∙ block_rows_are_packed ask t slots (bounded_filter ask) k.held_rows) ∙ packed_is_unpacked keyed_rows in
    ap (λ (rs : List Keyed). found ++ rs) given
    ∙ ap (λ (rs : List Keyed). rs ++ block_keyed ask t (bound_slots ask (bound_before ask rs)) (bounded_filter ask) k.held_rows) same
    ∙ sym (found-in ask table zones i k.held_rows k.there (found-test ask zones found (found_before ask table zones i) i false same kept))

-- the reads before a block that isn't skipped and then its own are among those that may be made up to its end
among-with : (ask : TopAsk) (i : ℕ) (before middle : StoreSeen) (front made : List Read) → IsSameStore before middle → i < length before.zones.lengths
    → rules_out before.zones [] i ask.filter_expr ≡ false → AreAmong front (top_asked_before ask before.zones i)
    → AreAmong made (block_asked middle.zones (bounded_filter ask) (keyed_projection ask) i) → AreAmong (front ++ made) (top_asked_before ask before.zones (i + 1))
among-with ask i before middle front made s l e h k =
    among-in ask before.zones i front made l e h (subst (λ (z : Zones). AreAmong made (block_asked z (bounded_filter ask) (keyed_projection ask) i)) s.zones k)

-- behind a block whose rows were put in
pub find-keeps : (ask : TopAsk) (v : Ty) (i : ℕ) (before middle after : StoreSeen) (found : List Keyed) (was now : Finding) → has_no_slot ask.filter_expr ≡ true
    → i < length before.zones.lengths → IsFoundTo ask v i before middle found was.first was.skipped.items → (turn : Keeps ask v found i middle after was now)
    → IsFoundTo ask v (i + 1) before after (found ++ map unpacked turn.given) now.first now.skipped.items
find-keeps ask v i before middle after found was now slotless l s turn =
    let zones = before.zones in
    let r = turn.ran in
    let kept : top_skips ask zones found i ≡ false = ap (λ (z : Zones). top_skips ask z found i) (sym s.same.zones) ∙ turn.kept in
    let Block : Table → Type 0 =
    λ table. RunsBlockOf (bound_slots ask (bound_before ask found)) (bounded_filter ask) (keyed_projection ask) i table middle after [] turn.given (Ok tt) in
    let block = told-block ask i before middle after found turn.given (Ok tt) s.same r in
    let Told : Table → Type 0 = λ table. Block table × (found ≡ found_before ask table zones i) in
    let told : WhereTold before.held Told = told_both before.held Block (λ table. found ≡ found_before ask table zones i) Told (λ table a b. (a, b)) block s.rows in
    record {
      same = same_after before middle after s.same r.same;
      unfailed = r.ends ∙ s.unfailed;
      among = (
        s.among.0 ++ r.made,
        logged before.log middle.log after.log s.among.0 r.made s.among.1 r.grown,
        among-with ask i before middle s.among.0 r.made s.same l (not-ruled ask zones found i slotless kept) s.among.2 r.asked,
      );
      holds = turn.holds;
      rows = told_so before.held Told (λ table. found ++ map unpacked turn.given ≡ found_before ask table zones (i + 1))
          (λ table d. rows-with ask table zones found i middle after turn.given d.1 kept d.0) told;
      ran = told_both before.held Told
          (λ table. TopRuns (row_type table.columns) (top_phases_before ask table zones i) before.log middle.log middle.failed (Ok tt))
          (λ table. TopRuns (row_type table.columns) (top_phases_before ask table zones (i + 1)) before.log after.log after.failed (Ok tt))
          (λ table d h. run-with ask table zones found i middle after before.log turn.given (Ok tt) d.1 kept h d.0) told s.ran;
      skipped = told_both before.held Told (λ table. was.skipped.items ≡ top_skipped_before ask table zones i)
          (λ table. now.skipped.items ≡ top_skipped_before ask table zones (i + 1))
          (λ table d h.
          turn.skipped ∙ h
          ∙ sym (skipped-in ask table zones i d.0.held_rows d.0.there (found-test ask zones found (found_before ask table zones i) i false d.1 kept)))
          told s.skipped;
      skips_before = subst (λ (ns : List ℕ). SkipsBefore ask zones (i + 1) ns) (sym turn.skipped)
          (skips-in ask zones i was.skipped.items l (not-ruled ask zones found i slotless kept) s.skips_before);
      unread = subst (λ (ns : List ℕ). list_any (is_read_of ns) (s.among.0 ++ r.made) ≡ false) (sym turn.skipped)
          (unread-in ask zones middle.zones i was.skipped.items s.among.0 r.made s.skips_before s.unread r.asked);
    }

-- ---- ends before the last block

-- the finding has come to a block whose turn ended it: what was read, and how far
record Stops (ask : TopAsk) (i : ℕ) (before after : StoreSeen) (e : ScanError) : Type 0 where
  made : List Read
  grown : after.log ≡ before.log ++ made
  among : AreAmong made (top_asked ask before.zones)
  ran : WhereTold before.held (λ table. TopRuns (row_type table.columns) (top_phases ask table before.zones) before.log after.log after.failed (Err e))

-- what ended up to a block ended among all
run-whole : (ask : TopAsk) (table : Table) (zones : Zones) (i : ℕ) (before after : List Read) (failed : Option Read) (e : ScanError)
    → TopRuns (row_type table.columns) (top_phases_before ask table zones i) before after failed (Err e)
    → TopRuns (row_type table.columns) (top_phases ask table zones) before after failed (Err e)
run-whole ask table zones i before after failed e h =
    let t = row_type table.columns in
    let split = phases-split ask table zones i in
    subst (λ (ps : List SlottedPhase). TopRuns t ps before after failed (Err e)) (sym split.1) (top_run_more t (top_phases_before ask table zones i) split.0 before after failed e h)

stops : (ask : TopAsk) (v : Ty) (i : ℕ) (before middle after : StoreSeen) (found : List Keyed) (was : FirstRows) (skips : List ℕ) (e : ScanError) → has_no_slot ask.filter_expr ≡ true
    → nat_eq ask.count 0 ≡ false → i < length before.zones.lengths → IsFoundTo ask v i before middle found was skips → (turn : Ends ask found i middle after e) → Stops ask i before after e
stops ask v i before middle after found was skips e slotless some l s turn =
    let zones = before.zones in
    let r = turn.ran in
    let kept : top_skips ask zones found i ≡ false = ap (λ (z : Zones). top_skips ask z found i) (sym s.same.zones) ∙ turn.kept in
    let Block : Table → Type 0 =
    λ table. RunsBlockOf (bound_slots ask (bound_before ask found)) (bounded_filter ask) (keyed_projection ask) i table middle after [] turn.given (Err e) in
    let block = told-block ask i before middle after found turn.given (Err e) s.same r in
    let Told : Table → Type 0 = λ table. Block table × (found ≡ found_before ask table zones i) in
    let told : WhereTold before.held Told = told_both before.held Block (λ table. found ≡ found_before ask table zones i) Told (λ table a b. (a, b)) block s.rows in
    record {
      made = s.among.0 ++ r.made;
      grown = logged before.log middle.log after.log s.among.0 r.made s.among.1 r.grown;
      among = among-all ask zones (i + 1) (s.among.0 ++ r.made) some
          (among-with ask i before middle s.among.0 r.made s.same l (not-ruled ask zones found i slotless kept) s.among.2 r.asked);
      ran = told_both before.held Told
          (λ table. TopRuns (row_type table.columns) (top_phases_before ask table zones i) before.log middle.log middle.failed (Ok tt))
          (λ table. TopRuns (row_type table.columns) (top_phases ask table zones) before.log after.log after.failed (Err e))
          (λ table d h.
          run-whole ask table zones (i + 1) before.log after.log after.failed e
          (run-with ask table zones found i middle after before.log turn.given (Err e) d.1 kept h d.0)) told s.ran;
    }

-- a finding that ended by a cause
find-broke : (c : Cause) (ask : TopAsk) (i : ℕ) (before middle after : StoreSeen) (ty : Ty) (e : ScanError) → IsTypedTop before.zones ask ty → nat_eq ask.count 0 ≡ false
    → i < length before.zones.lengths → rules_out before.zones [] i ask.filter_expr ≡ false → IsSameStore before middle → middle.failed ≡ before.failed → Stops ask i before after e
    → BrokeBy c (bounded_filter ask) (keyed_projection ask) middle after
    → ((table : Table) → TopRuns (row_type table.columns) (top_phases ask table before.zones) before.log after.log after.failed (Err e)
    → (after.log ≡ before.log ++ top_reads_to_break ask table before.zones) × (first_top_breaks_by c ask table before.zones ≡ true))
    → IsTopBroken c ask before after
find-broke c ask i before middle after ty e typed some l out same unfailed s b broke =
    let zones = before.zones in
    let Ran : Table → Type 0 = λ table. TopRuns (row_type table.columns) (top_phases ask table zones) before.log after.log after.failed (Err e) in
    record {
      ty = ty;
      typed = typed;
      asks = sym (asks-same c (row_type zones.columns) ask)
          ∙ subst (λ (z : Zones). (asks_breaking c (row_type z.columns) (bounded_filter ask) || asks_breaking c (row_type z.columns) (keyed_projection ask)) ≡ true) same.zones b.1;
      kept = block-there ask zones i some l out;
      first_breaks = told_so before.held Ran (λ table. first_top_breaks_by c ask table zones ≡ true) (λ table r. (broke table r).1) s.ran;
      reads = record {
        made = s.made;
        grown = s.grown;
        asked = s.among;
        told = told_so before.held Ran (λ table. s.made ≡ top_reads_to_break ask table zones)
            (λ table r. append_cancel_left before.log s.made (top_reads_to_break ask table zones) (sym s.grown ∙ (broke table r).0)) s.ran;
      };
      unfailed = b.0 ∙ unfailed;
    }

-- the read that failed
failed_read : (all made : List Read) (failed : Option Read) → FailedAmong all made failed → (read : Read) × (failed ≡ Some read) × AreAmong (made ++ (read ∷ [])) all
failed_read all made None h = absurd h
failed_read all made (Some read) h = (read, refl, h)

find-failed : (ask : TopAsk) (before after : StoreSeen) (ty : Ty) (i : ℕ) (read : Read) → IsTypedTop before.zones ask ty → (s : Stops ask i before after errors.StoreFault)
    → one_more before.faults ≤ after.faults → after.failed ≡ Some read → AreAmong (s.made ++ read ∷ []) (top_asked ask before.zones) → IsTopFault ask before after
find-failed ask before after ty i read typed s risen failed next =
    let zones = before.zones in
    record {
      ty = ty;
      typed = typed;
      risen = risen;
      read = read;
      failed = failed;
      reads = record {
        made = s.made;
        grown = s.grown;
        asked = s.among;
        told = told_so before.held
            (λ table. TopRuns (row_type table.columns) (top_phases ask table zones) before.log after.log after.failed (Err errors.StoreFault))
            (λ table. (left : List Read) × (top_reads_to_break ask table zones ≡ s.made ++ (read ∷ left)))
            (λ table r.
            let done : r.1 ≡ s.made = append_cancel_left before.log r.1 s.made (sym r.4 ∙ s.grown) in
            let so : Some r.0 ≡ Some read = sym r.3 ∙ failed in
            let same : r.0 ≡ read = cc in
            (r.2, r.5 ∙ (λ j. done j ++ (same j ∷ r.2))))
            s.ran;
      };
      next_asked = next;
    }

find-cut : (ask : TopAsk) (before after : StoreSeen) (ty : Ty) (i : ℕ) → IsTypedTop before.zones ask ty → Stops ask i before after errors.NoMemory → after.failed ≡ before.failed
    → IsTopCutOff ask before after
find-cut ask before after ty i typed s unfailed =
    let zones = before.zones in
    record {
      ty = ty;
      typed = typed;
      reads = record {
        made = s.made;
        grown = s.grown;
        asked = s.among;
        told = told_so before.held
            (λ table. TopRuns (row_type table.columns) (top_phases ask table zones) before.log after.log after.failed (Err errors.NoMemory))
            (λ table. (left : List Read) × (top_reads_to_break ask table zones ≡ s.made ++ left))
            (λ table r.
            let done : r.0 ≡ s.made = append_cancel_left before.log r.0 s.made (sym r.2 ∙ s.grown) in
            (r.1, r.3 ∙ ap (λ (reads : List Read). reads ++ r.1) done))
            s.ran;
      };
      unfailed = unfailed;
    }

-- the finding ends as the run of a block ended
pub find-stops : (ask : TopAsk) (v : Ty) (i : ℕ) (before middle after : StoreSeen) (found : List Keyed) (was : FirstRows) (skips : List ℕ) (ty : Ty) (e : ScanError)
    → IsTypedTop before.zones ask ty → has_no_slot ask.filter_expr ≡ true → nat_eq ask.count 0 ≡ false → i < length before.zones.lengths
    → IsFoundTo ask v i before middle found was skips → Ends ask found i middle after e → IsTopStopped ask before after e
unfolding stops
find-stops ask v i before middle after found was skips ty e typed slotless some l s turn = by-error e turn
  where
    out : {d : ScanError} → Ends ask found i middle after d → rules_out before.zones [] i ask.filter_expr ≡ false
    out turn = not-ruled ask before.zones found i slotless (ap (λ (z : Zones). top_skips ask z found i) (sym s.same.zones) ∙ turn.kept)

    by-error : (d : ScanError) → Ends ask found i middle after d → IsTopStopped ask before after d
    by-error errors.Overflow turn =
        find-broke by_sum ask i before middle after ty errors.Overflow typed some l (out turn) s.same s.unfailed
        (stops ask v i before middle after found was skips errors.Overflow slotless some l s turn) turn.ran.ends (λ table k. k)
    by-error errors.BadCast turn =
        find-broke by_cast ask i before middle after ty errors.BadCast typed some l (out turn) s.same s.unfailed
        (stops ask v i before middle after found was skips errors.BadCast slotless some l s turn) turn.ran.ends (λ table k. k)
    by-error errors.StoreFault turn =
        let r = turn.ran in
        let last = failed_read (block_asked middle.zones (bounded_filter ask) (keyed_projection ask) i) r.made after.failed r.ends.1 in
        let all = stops ask v i before middle after found was skips errors.StoreFault slotless some l s turn in
        find-failed ask before after ty i last.0 typed all (one_more_later before.faults middle.faults after.faults s.same.later r.ends.0) last.1
        (subst (λ (reads : List Read). AreAmong reads (top_asked ask before.zones)) (sym (append_assoc s.among.0 r.made (last.0 ∷ [])))
        (among-all ask before.zones (i + 1) (s.among.0 ++ (r.made ++ last.0 ∷ [])) some
        (among-with ask i before middle s.among.0 (r.made ++ last.0 ∷ []) s.same l (out turn) s.among.2 last.2)))
    by-error errors.NoMemory turn =
        find-cut ask before after ty i typed (stops ask v i before middle after found was skips errors.NoMemory slotless some l s turn) (turn.ran.ends ∙ s.unfailed)
    by-error (errors.BadWire side) turn = absurd turn.ran.ends
    by-error (errors.TooDeep side) turn = absurd turn.ran.ends
    by-error (errors.TooManyNodes side) turn = absurd turn.ran.ends
    by-error (errors.UnknownExpr side) turn = absurd turn.ran.ends
    by-error (errors.BadMetadata side) turn = absurd turn.ran.ends
    by-error (errors.WrongChildren side) turn = absurd turn.ran.ends
    by-error (errors.NotStruct side) turn = absurd turn.ran.ends
    by-error (errors.NullableSelect side) turn = absurd turn.ran.ends
    by-error (errors.UnknownField side) turn = absurd turn.ran.ends
    by-error (errors.DuplicateField side) turn = absurd turn.ran.ends
    by-error (errors.TypeMismatch side) turn = absurd turn.ran.ends
    by-error errors.FilterNotBool turn = absurd turn.ran.ends

-- there was no memory between two blocks
pub find-stops-between : (ask : TopAsk) (v : Ty) (i : ℕ) (before after : StoreSeen) (found : List Keyed) (was : FirstRows) (skips : List ℕ) (ty : Ty)
    → IsTypedTop before.zones ask ty → nat_eq ask.count 0 ≡ false → IsFoundTo ask v i before after found was skips → IsTopCutOff ask before after
find-stops-between ask v i before after found was skips ty typed some s =
    let zones = before.zones in
    find-cut ask before after ty i typed
    (record {
      made = s.among.0;
      grown = s.among.1;
      among = among-all ask zones i s.among.0 some s.among.2;
      ran = told_so before.held
          (λ table. TopRuns (row_type table.columns) (top_phases_before ask table zones i) before.log after.log after.failed (Ok tt))
          (λ table. TopRuns (row_type table.columns) (top_phases ask table zones) before.log after.log after.failed (Err errors.NoMemory))
          (λ table r.
          let t = row_type table.columns in
          let split = phases-split ask table zones i in
          subst (λ (ps : List SlottedPhase). TopRuns t ps before.log after.log after.failed (Err errors.NoMemory)) (sym split.1)
          (top_run_cut t (top_phases_before ask table zones i) split.0 before.log after.log after.failed after.failed r))
          s.ran;
    })
    s.unfailed

-- nor behind a block's run
pub find-stops-behind : (ask : TopAsk) (v : Ty) (i : ℕ) (before middle after : StoreSeen) (found : List Keyed) (was : FirstRows) (skips : List ℕ) (ty : Ty) (e : ScanError)
    → IsTypedTop before.zones ask ty → has_no_slot ask.filter_expr ≡ true → nat_eq ask.count 0 ≡ false → i < length before.zones.lengths
    → IsFoundTo ask v i before middle found was skips → EndsBehind ask found i middle after e → IsTopCutOff ask before after
find-stops-behind ask v i before middle after found was skips ty e typed slotless some l s turn =
    let zones = before.zones in
    let r = turn.ran in
    let kept : top_skips ask zones found i ≡ false = ap (λ (z : Zones). top_skips ask z found i) (sym s.same.zones) ∙ turn.kept in
    let Block : Table → Type 0 =
    λ table. RunsBlockOf (bound_slots ask (bound_before ask found)) (bounded_filter ask) (keyed_projection ask) i table middle after [] turn.given (Ok tt) in
    let block = told-block ask i before middle after found turn.given (Ok tt) s.same r in
    let Told : Table → Type 0 = λ table. Block table × (found ≡ found_before ask table zones i) in
    let told : WhereTold before.held Told = told_both before.held Block (λ table. found ≡ found_before ask table zones i) Told (λ table a b. (a, b)) block s.rows in
    find-cut ask before after ty i typed
    (record {
      made = s.among.0 ++ r.made;
      grown = logged before.log middle.log after.log s.among.0 r.made s.among.1 r.grown;
      among = among-all ask zones (i + 1) (s.among.0 ++ r.made) some
          (among-with ask i before middle s.among.0 r.made s.same l (not-ruled ask zones found i slotless kept) s.among.2 r.asked);
      ran = told_both before.held Told
          (λ table. TopRuns (row_type table.columns) (top_phases_before ask table zones i) before.log middle.log middle.failed (Ok tt))
          (λ table. TopRuns (row_type table.columns) (top_phases ask table zones) before.log after.log after.failed (Err errors.NoMemory))
          (λ table d h.
          let t = row_type table.columns in
          let split = phases-split ask table zones (i + 1) in
          subst (λ (ps : List SlottedPhase). TopRuns t ps before.log after.log after.failed (Err errors.NoMemory)) (sym split.1)
          (top_run_cut t (top_phases_before ask table zones (i + 1)) split.0 before.log after.log after.failed after.failed
          (run-with ask table zones found i middle after before.log turn.given (Ok tt) d.1 kept h d.0)))
          told s.ran;
    })
    (r.ends ∙ s.unfailed)

-- where the finding stands after a block's turn
pub turn-finds : (ask : TopAsk) (v : Ty) (i : ℕ) (before middle after : StoreSeen) (was now : Finding) (u : Unit {0}) → has_no_slot ask.filter_expr ≡ true
    → WhereTold before.held (AgreesWith before.zones) → i < length before.zones.lengths → (f : FindsTo ask v i before middle was)
    → TakesTurn ask v f.0 i middle after was now (Ok u) → FindsTo ask v (i + 1) before after now
turn-finds ask v i before middle after was now u slotless agrees l f (inl turn) = (
  f.0,
  find-skips ask v i before middle after f.0 was now agrees l f.1 turn,
  subst (λ (z : Zones). AreRuledBehind ask z f.0 now.ruled) f.1.same.zones turn.ruled,
)
turn-finds ask v i before middle after was now u slotless agrees l f (inr turn) = (
  f.0 ++ map unpacked turn.given,
  find-keeps ask v i before middle after f.0 was now slotless l f.1 turn,
  subst (λ (z : Zones). AreRuledBehind ask z (f.0 ++ map unpacked turn.given) now.ruled) f.1.same.zones turn.ruled,
)

pub turn-stops : (ask : TopAsk) (v : Ty) (i : ℕ) (before middle after : StoreSeen) (was now : Finding) (ty : Ty) (e : ScanError) → IsTypedTop before.zones ask ty
    → has_no_slot ask.filter_expr ≡ true → nat_eq ask.count 0 ≡ false → i < length before.zones.lengths → (f : FindsTo ask v i before middle was)
    → TakesTurn ask v f.0 i middle after was now (Err e) → IsTopStopped ask before after e
turn-stops ask v i before middle after was now ty e typed slotless some l f (inl cut) =
    subst (λ (d : ScanError). IsTopStopped ask before after d) (sym cut.1)
    (subst (λ (seen : StoreSeen). IsTopCutOff ask before seen) (sym cut.0)
    (find-stops-between ask v i before middle f.0 was.first was.skipped.items ty typed some f.1))
turn-stops ask v i before middle after was now ty e typed slotless some l f (inr (inl turn)) =
    find-stops ask v i before middle after f.0 was.first was.skipped.items ty e typed slotless some l f.1 turn
turn-stops ask v i before middle after was now ty e typed slotless some l f (inr (inr turn)) =
    subst (λ (d : ScanError). IsTopStopped ask before after d) (sym turn.memory)
    (find-stops-behind ask v i before middle after f.0 was.first was.skipped.items ty e typed slotless some l f.1 turn)

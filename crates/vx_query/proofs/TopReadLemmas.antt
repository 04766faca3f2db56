-- Each read of a search for first rows is of a block that the filter alone doesn't rule out and of a column that is asked, and none stands twice.
use Rattle.std.proofs.Common.{◌≡◌, ◌∙◌, sym, ap, refl, subst, ℕ, Bool, true, false, cond, not, ◌||◌, nat_eq, List, [], ◌∷◌, ◌++◌, map, Some, None, Ok, true≢false}
use Rattle.std.specs.List.{flat_map, filter}
use Rattle.std.proofs.lemmas.Bool.{or_left, or_parts}
use Rattle.std.proofs.lemmas.List.{append_assoc}
use Rattle.std.proofs.lemmas.Option.{same_Some}
use Rattle.vx_dtype.specs.Types.{Bytes, Ty}
use Rattle.vx_dtype.specs.TypeRules.{field_names, distinct_names}
use Rattle.vx_dtype.specs.Values.{Val}
use Rattle.vx_semantics.specs.Asked.{asked_columns}
use Rattle.vx_semantics.specs.Meaning.{Slots}
use Rattle.vx_semantics.specs.Pruning.{rules_out}
use Rattle.vx_semantics.specs.Scans.{Phase, block_phases, phase_reads, kept_of, kept_blocks, reads_in, further_columns, matching_rows, has_rows}
use Rattle.vx_semantics.specs.Tables.{Zones, row_type, numbered_from}
use Rattle.vx_wire.specs.Encodings.{is_default_kind}
use Rattle.vx_laws_scan.specs.Pruned.{KeptNumbersAreKeptBlocks}
use Rattle.vx_laws_scan.proofs.BlockReads.{block_reads_are}
use Rattle.vx_scan.specs.Scanning.{AreAmong, asked_reads}
use Rattle.vx_scan.specs.ScanLaws.{distinct_reads}
use Rattle.vx_scan.specs.Stores.{Read, StoreSeen}
use Rattle.vx_scan.proofs.AmongLemmas.{among_nothing, among_all, among_behind, among_append}
use Rattle.vx_scan.proofs.AskedLemmas.{reads_are_distinct}
use Rattle.vx_laws_topk.specs.BoundLaws.{SlotlessRulesOutTheSame, BoundedFilterRulesOutMore}
use Rattle.vx_laws_topk.specs.TopLaws.{has_no_slot}
use Rattle.vx_laws_topk.specs.TopRows.{Keyed, TopAsk, bound_before, bounded_filter, bound_slots, top_skips, found_with}
use Rattle.vx_laws_topk.specs.TopPhases.{SlottedPhase, keyed_projection, phases_over, slotted_breaks, slotted_to_break, slotted_reads, top_phases, top_reads, top_reads_to_break, top_asked}
use Rattle.vx_request.specs.Requests.{RequestedScan}
use Rattle.vx_query.specs.BlockAgreement.{agree}
use Rattle.vx_query.specs.TopWords.{AskedTop}
use Rattle.vx_query.specs.Running.{End, IsTaken, HoldsTop, words_of, top_form, gen_form, scan_table, topped_store, top_broken_store, Outcome, misused, helped, versioned, out_of_memory, unread, refused, unscanned, broken, answered, explained, undecoded, unshown, shown, unnamed, unserialized, overlong, named, summed, unkeyed, top_broken, topped, unfiled, filed, file_ended, IsOutcome, IsRun, used_by}
use Rattle.vx_query.specs.TopCauses.{top_store_after, HasTopReads}
use Rattle.vx_query.proofs.BlockAgreementLemmas.{agree_in}
use Rattle.vx_query.proofs.CauseLemmas.{no_top}
use Rattle.vx_query.proofs.ReadLemmas.{among_trans, as_many}
use Rattle.vx_query.proofs.RequestEnds.{not_none}
use Rattle.vx_query.proofs.SlotLemmas.{spelled_slotless}
use Rattle.vx_query.proofs.SoundScans.{request_names}
use Rattle.vx_query.proofs.TopCauseLemmas.{asked_search, no_scanning, search_breaks}

-- ---- the reads of phases

slotted_append : (ss more : List SlottedPhase) → slotted_reads (ss ++ more) ≡ slotted_reads ss ++ slotted_reads more
slotted_append [] more = refl
slotted_append (s ∷ ss) more =
    ap (λ rs. s.phase.reads ++ rs) (slotted_append ss more) ∙ sym (append_assoc s.phase.reads (slotted_reads ss) (slotted_reads more))

-- a phase with slots
abbrev slotted : Slots → Phase → SlottedPhase
slotted slots phase = record { slots = slots; phase = phase }

with_slots : (slots : Slots) (phases : List Phase) → slotted_reads (map (slotted slots) phases) ≡ phase_reads phases
with_slots slots [] = refl
with_slots slots (phase ∷ phases) = ap (λ rs. phase.reads ++ rs) (with_slots slots phases)

to_break_among : (t : Ty) (ss : List SlottedPhase) → AreAmong (slotted_reads (slotted_to_break t ss)) (slotted_reads ss)
to_break_among t [] = tt
to_break_among t (s ∷ ss) =
    among_append s.phase.reads (slotted_reads (cond (slotted_breaks t s) [] (slotted_to_break t ss))) s.phase.reads (slotted_reads ss)
    (among_all s.phase.reads) (by (slotted_breaks t s) (to_break_among t ss))
  where
    by : (b : Bool) → AreAmong (slotted_reads (slotted_to_break t ss)) (slotted_reads ss)
        → AreAmong (slotted_reads (cond b [] (slotted_to_break t ss))) (slotted_reads ss)
    by true h = among_nothing (slotted_reads ss)
    by false h = h

-- ---- the reads of blocks

-- the reads that may be made of a block
abbrev reads_asked : TopAsk → Zones → ℕ → List Read
reads_asked ask zones b =
    reads_in b (asked_columns (row_type zones.columns) (bounded_filter ask))
    ++ reads_in b (further_columns (row_type zones.columns) (bounded_filter ask) (keyed_projection ask))

some_among : (b : Bool) (further : List Read) → AreAmong (cond b further []) further
some_among true further = among_all further
some_among false further = among_nothing further

block_among : (ask : TopAsk) (zones : Zones) (slots : Slots) (b : ℕ × List Val)
    → AreAmong (phase_reads (block_phases (row_type zones.columns) slots (bounded_filter ask) (keyed_projection ask) b)) (reads_asked ask zones b.0)
block_among ask zones slots b =
    let t = row_type zones.columns in
    let f = bounded_filter ask in
    let p = keyed_projection ask in
    let own = reads_in b.0 (asked_columns t f) in
    let further = reads_in b.0 (further_columns t f p) in
    let some = has_rows (matching_rows t slots f b.1) in
    subst (λ rs. AreAmong rs (reads_asked ask zones b.0)) (sym (block_reads_are t slots f p b))
    (among_append own (cond some further []) own further (among_all own) (some_among some further))

-- of blocks, each with its number, those that the filter alone doesn't rule out
abbrev not_ruled : TopAsk → Zones → List (ℕ × List Val) → List (ℕ × List Val)
not_ruled ask zones bs = filter (λ b. not (rules_out zones [] b.0 ask.filter_expr)) bs

over_among : BoundedFilterRulesOutMore → (ask : TopAsk) (zones : Zones) → has_no_slot ask.filter_expr ≡ true → (found : List Keyed)
    (bs : List (ℕ × List Val))
    → AreAmong (slotted_reads (phases_over ask (row_type zones.columns) zones found bs)) (flat_map (reads_asked ask zones) (map (λ b. b.0) (not_ruled ask zones bs)))
over_among more ask zones slotless found [] = tt
over_among more ask zones slotless found (b ∷ bs) =
    by (top_skips ask zones found b.0) refl (rules_out zones [] b.0 ask.filter_expr) refl (over_among more ask zones slotless (found_with ask t zones found b) bs)
  where
    t : Ty
    t = row_type zones.columns

    slots : Slots
    slots = bound_slots ask (bound_before ask found)

    phases : List Phase
    phases = block_phases t slots (bounded_filter ask) (keyed_projection ask) b

    next : List SlottedPhase
    next = phases_over ask t zones (found_with ask t zones found b) bs

    later : List Read
    later = flat_map (reads_asked ask zones) (map (λ b. b.0) (not_ruled ask zones bs))

    by : (skips : Bool) → top_skips ask zones found b.0 ≡ skips → (ruled : Bool) → rules_out zones [] b.0 ask.filter_expr ≡ ruled
        → AreAmong (slotted_reads next) later
        → AreAmong (slotted_reads (cond skips [] (map (slotted slots) phases) ++ next))
        (flat_map (reads_asked ask zones) (map (λ b. b.0) (cond (not ruled) (b ∷ not_ruled ask zones bs) (not_ruled ask zones bs))))
    by true e true k rest = rest
    by true e false k rest = among_behind (slotted_reads next) (reads_asked ask zones b.0) later rest
    by false e true k rest =
        let parts = or_parts (nat_eq ask.count 0) (rules_out zones slots b.0 (bounded_filter ask)) e in
        absurd (true≢false (sym (more zones slots b.0 ask slotless k) ∙ parts.1))
    by false e false k rest =
        let reads = slotted_append (map (slotted slots) phases) next ∙ ap (λ rs. rs ++ slotted_reads next) (with_slots slots phases) in
        subst (λ rs. AreAmong rs (reads_asked ask zones b.0 ++ later)) (sym reads)
        (among_append (phase_reads phases) (slotted_reads next) (reads_asked ask zones b.0) later (block_among ask zones slots b) rest)

-- where no row is asked there is no phase
none_over : (ask : TopAsk) (t : Ty) (zones : Zones) → nat_eq ask.count 0 ≡ true → (found : List Keyed) (bs : List (ℕ × List Val))
    → phases_over ask t zones found bs ≡ []
none_over ask t zones none found [] = refl
none_over ask t zones none found (b ∷ bs) =
    let slots = bound_slots ask (bound_before ask found) in
    ap
    (λ skips. cond skips [] (map (slotted slots) (block_phases t slots (bounded_filter ask) (keyed_projection ask) b))
    ++ phases_over ask t zones (found_with ask t zones found b) bs)
    (or_left (nat_eq ask.count 0) (rules_out zones slots b.0 (bounded_filter ask)) none)
    ∙ none_over ask t zones none (found_with ask t zones found b) bs

reads_among : KeptNumbersAreKeptBlocks → BoundedFilterRulesOutMore → (a : RequestedScan) (ask : TopAsk) → has_no_slot ask.filter_expr ≡ true
    → agree (Ok a) ≡ true → AreAmong (top_reads ask (scan_table a) a.zones) (top_asked ask a.zones)
reads_among kept more a ask slotless agreeing = by (nat_eq ask.count 0) refl
  where
    by : (none : Bool) → nat_eq ask.count 0 ≡ none
        → AreAmong (top_reads ask (scan_table a) a.zones) (flat_map (reads_asked ask a.zones) (cond none [] (kept_blocks a.zones [] ask.filter_expr)))
    by true h =
        subst (λ ss. AreAmong (slotted_reads ss) [])
        (sym (none_over ask (row_type a.zones.columns) a.zones h [] (numbered_from 0 (scan_table a).blocks))) tt
    by false h =
        let numbers : map (λ b. b.0) (kept_of (scan_table a) a.zones [] ask.filter_expr) ≡ kept_blocks a.zones [] ask.filter_expr =
        kept a.zones (scan_table a) [] ask.filter_expr (as_many a agreeing) in
        subst (λ ns. AreAmong (top_reads ask (scan_table a) a.zones) (flat_map (reads_asked ask a.zones) ns)) numbers
        (over_among more ask a.zones slotless [] (numbered_from 0 (scan_table a).blocks))

-- ---- none stands twice

or_false : (b : Bool) → (b || false) ≡ b
or_false true = refl
or_false false = refl

-- with no bound the bounded filter rules out what the filter does
unbounded : SlotlessRulesOutTheSame → (ask : TopAsk) (zones : Zones) (block : ℕ) → has_no_slot ask.filter_expr ≡ true
    → rules_out zones (bound_slots ask None) block (bounded_filter ask) ≡ rules_out zones [] block ask.filter_expr
unfolding rules_out
unbounded same ask zones block slotless =
    by ask.descending refl ∙ or_false (rules_out zones (bound_slots ask None) block ask.filter_expr)
    ∙ same zones (bound_slots ask None) [] block ask.filter_expr slotless
  where
    by : (d : Bool) → ask.descending ≡ d
        → rules_out zones (bound_slots ask None) block (bounded_filter ask) ≡ (rules_out zones (bound_slots ask None) block ask.filter_expr || false)
    by true h = rw h refl
    by false h = rw h refl

kept_alike : SlotlessRulesOutTheSame → (ask : TopAsk) (zones : Zones) → has_no_slot ask.filter_expr ≡ true → (bs : List (ℕ × ℕ))
    → map (λ b. b.0) (filter (λ b. not (rules_out zones [] b.0 ask.filter_expr)) bs)
    ≡ map (λ b. b.0) (filter (λ b. not (rules_out zones (bound_slots ask None) b.0 (bounded_filter ask))) bs)
kept_alike same ask zones slotless [] = refl
kept_alike same ask zones slotless (b ∷ bs) =
    by (rules_out zones [] b.0 ask.filter_expr) (kept_alike same ask zones slotless bs)
    ∙ sym (ap (λ r. map (λ (c : ℕ × ℕ). c.0) (cond (not r) (b ∷ bounded) bounded)) (unbounded same ask zones b.0 slotless))
  where
    alone : List (ℕ × ℕ)
    alone = filter (λ b. not (rules_out zones [] b.0 ask.filter_expr)) bs

    bounded : List (ℕ × ℕ)
    bounded = filter (λ b. not (rules_out zones (bound_slots ask None) b.0 (bounded_filter ask))) bs

    by : (r : Bool) → map (λ (c : ℕ × ℕ). c.0) alone ≡ map (λ (c : ℕ × ℕ). c.0) bounded
        → map (λ (c : ℕ × ℕ). c.0) (cond (not r) (b ∷ alone) alone) ≡ map (λ (c : ℕ × ℕ). c.0) (cond (not r) (b ∷ bounded) bounded)
    by true h = h
    by false h = ap (λ ns. b.0 ∷ ns) h

-- so the reads that may be made are some of those of a scan by the bounded filter
asked_among : SlotlessRulesOutTheSame → (ask : TopAsk) (zones : Zones) → has_no_slot ask.filter_expr ≡ true
    → AreAmong (top_asked ask zones) (asked_reads zones (bound_slots ask None) (bounded_filter ask) (keyed_projection ask))
asked_among same ask zones slotless =
    subst (λ ns. AreAmong (top_asked ask zones) (flat_map (reads_asked ask zones) ns)) (kept_alike same ask zones slotless (numbered_from 0 zones.lengths))
    (by (nat_eq ask.count 0))
  where
    kept : List ℕ
    kept = kept_blocks zones [] ask.filter_expr

    by : (none : Bool) → AreAmong (flat_map (reads_asked ask zones) (cond none [] kept)) (flat_map (reads_asked ask zones) kept)
    by true = among_nothing (flat_map (reads_asked ask zones) kept)
    by false = among_all (flat_map (reads_asked ask zones) kept)

made_distinct : SlotlessRulesOutTheSame → (ask : TopAsk) (zones : Zones) (made : List Read) → has_no_slot ask.filter_expr ≡ true
    → distinct_names (field_names zones.columns) ≡ true → AreAmong made (top_asked ask zones) → distinct_reads made ≡ true
made_distinct same ask zones made slotless names among =
    let all = asked_reads zones (bound_slots ask None) (bounded_filter ask) (keyed_projection ask) in
    reads_are_distinct zones (bound_slots ask None) (bounded_filter ask) (keyed_projection ask) made names
    (among_trans made (top_asked ask zones) all among (asked_among same ask zones slotless))

-- ---- the store of a run

pub searches_ask : KeptNumbersAreKeptBlocks → SlotlessRulesOutTheSame → BoundedFilterRulesOutMore → (top : AskedTop) (i i' o o' : End) (store : StoreSeen)
    (status : ℕ) → IsRun (Some (top_form top)) i i' o o' (Some store) status → HasTopReads top i i' store
searches_ask kept same more top i i' o o' store status run = by run.outcome run.comes run.held
  where
    store_of : (input : Bytes) (a : RequestedScan) (ask : TopAsk) → Some (top_form top) ≡ Some (top_form (words_of ask)) → IsTaken i i' input
        → HoldsTop input a ask → store ≡ top_store_after a ask → AreAmong store.log (top_reads ask (scan_table a) a.zones) → HasTopReads top i i' store
    store_of input a ask is taken asks held among =
        let slotless = spelled_slotless is_default_kind a.filter ask.filter_expr asks.scan.spelled.filter_spelled in
        let agreeing : agree (Ok a) ≡ true = ap agree (sym asks.scan.asked) ∙ agree_in input in
        let all = among_trans store.log (top_reads ask (scan_table a) a.zones) (top_asked ask a.zones) among (reads_among kept more a ask slotless agreeing) in
        record {
          search = asked_search top i i' input a ask is taken asks;
          held = held;
          all_asked = all;
          distinct = made_distinct same ask a.zones store.log slotless (request_names input a asks.scan.asked) all;
        }

    by : (outcome : Outcome) → IsOutcome (Some (top_form top)) i i' outcome → Some store ≡ used_by outcome → HasTopReads top i i' store
    by misused comes held = absurd (not_none held)
    by helped comes held = absurd (not_none held)
    by versioned comes held = absurd (not_none held)
    by out_of_memory comes held = absurd (not_none held)
    by unread comes held = absurd (not_none held)
    by (refused input e) comes held = absurd (not_none held)
    by (unscanned input e) comes held = absurd (not_none held)
    by (broken chosen cause input a f p) comes held = absurd (no_scanning top chosen comes.asks)
    by (answered chosen input a f p) comes held = absurd (no_scanning top chosen comes.asks)
    by (explained input a f p) comes held = absurd (not_none held)
    by undecoded comes held = absurd (not_none held)
    by (unshown e) comes held = absurd (not_none held)
    by (shown showing e) comes held = absurd (not_none held)
    by (unnamed e) comes held = absurd (not_none held)
    by unserialized comes held = absurd (not_none held)
    by overlong comes held = absurd (not_none held)
    by (named e) comes held = absurd (not_none held)
    by (summed rows) comes held = absurd (no_top (Some (gen_form rows)) top refl (sym comes.0))
    by (unkeyed own input r) comes held = absurd (not_none held)
    by (top_broken cause input a ask) comes held =
        let whole : top_store_after a ask ≡ top_broken_store a ask =
        ap (λ x. cond x (top_broken_store a ask) (topped_store a ask)) (search_breaks cause a ask comes.holds.1) in
        let log : store.log ≡ top_reads_to_break ask (scan_table a) a.zones = ap (λ s. s.log) (same_Some store (top_broken_store a ask) held) in
        store_of input a ask comes.asks comes.taken comes.holds.0 (same_Some store (top_broken_store a ask) held ∙ sym whole)
        (subst (λ rs. AreAmong rs (top_reads ask (scan_table a) a.zones)) (sym log)
        (to_break_among (row_type a.zones.columns) (top_phases ask (scan_table a) a.zones)))
    by (topped input a ask) comes held =
        let whole : top_store_after a ask ≡ topped_store a ask =
        ap (λ x. cond x (top_broken_store a ask) (topped_store a ask)) comes.holds.1 in
        let log : store.log ≡ top_reads ask (scan_table a) a.zones = ap (λ s. s.log) (same_Some store (topped_store a ask) held) in
        store_of input a ask comes.asks comes.taken comes.holds.0 (same_Some store (topped_store a ask) held ∙ sym whole)
        (subst (λ rs. AreAmong rs (top_reads ask (scan_table a) a.zones)) (sym log) (among_all (top_reads ask (scan_table a) a.zones)))
    by (unfiled input) comes held = absurd (not_none held)
    by (filed input a) comes held = absurd (not_none held)
    by (file_ended input ending) comes held = absurd (not_none held)

-- Each read of the scan of a request is of a kept block and of a column that the filter or the projection asks.
use Rattle.std.proofs.Common.{◌≡◌, ◌∙◌, sym, ap, refl, subst, ℕ, Bool, true, false, cond, not, ◌&&◌, ◌||◌, nat_eq, List, [], ◌∷◌, ◌++◌, length, map, Option, Some, None, Ok, inl, inr, true≢false}
use Rattle.std.specs.List.{flat_map, list_all, list_any, AllByRecursion}
use Rattle.std.specs.Str.{bytes_eq}
use Rattle.std.proofs.lemmas.Bool.{and_from, or_left, or_right}
use Rattle.std.proofs.lemmas.List.Folds.{list_all-append}
use Rattle.std.proofs.lemmas.List.{length-map}
use Rattle.std.proofs.lemmas.Option.{same_Some}
use Rattle.vx_dtype.specs.Types.{Bytes, Ty}
use Rattle.vx_dtype.specs.Values.{Val}
use Rattle.vx_dtype.specs.TypeRules.{has_name, field_names}
use Rattle.vx_expr.specs.Trees.{Tree}
use Rattle.vx_semantics.specs.Asked.{asked_columns}
use Rattle.vx_semantics.specs.Meaning.{Slots}
use Rattle.std.proofs.lemmas.Slice.Eq.{bytes_eq-Decides}
use Rattle.vx_semantics.specs.Pruning.{rules_out}
use Rattle.vx_semantics.specs.Tables.{row_type, numbered_from}
use Rattle.vx_semantics.specs.Scans.{Phase, phase_breaks, phase_reads, phases_to_break, phases_of, kept_of, kept_blocks, reads_in, further_columns, matching_rows, has_rows, reads_to_break}
use Rattle.vx_laws_scan.specs.Pruned.{KeptNumbersAreKeptBlocks}
use Rattle.vx_laws_scan.proofs.BlockReads.{block_reads, reads_by_block}
use Rattle.vx_tables.specs.Blocks.{have_lengths, have_types}
use Rattle.vx_scan.specs.BlockRuns.{block_asked}
use Rattle.vx_scan.specs.Scanning.{AreAmong, asked_reads}
use Rattle.vx_scan.specs.Stores.{Read, StoreSeen}
use Rattle.vx_scan.proofs.AmongLemmas.{among_nothing, among_all, among_append}
use Rattle.vx_scan.proofs.AskedLemmas.{all_so, all_passing, all_here, number_itself, among_pass, reads_are_asked, reads_are_distinct}
use Rattle.vx_tables.proofs.BlockLemmas.{table_lengths}
use Rattle.vx_request.specs.Requests.{RequestedScan}
use Rattle.vx_query.specs.BlockAgreement.{agree}
use Rattle.vx_query.specs.Running.{End, Form, Statistics, reads_request, asked_top, scan_form, scan_by, IsTaken, HoldsScan, scan_table, scan_reads, scanned_store, broken_store, Outcome, misused, helped, versioned, out_of_memory, unread, refused, unscanned, broken, answered, explained, undecoded, unshown, shown, unnamed, unserialized, overlong, named, summed, unkeyed, top_broken, topped, unfiled, filed, file_ended, IsOutcome, IsRun, used_by}
use Rattle.vx_query.specs.Causes.{store_after, is_needed_read, HasAskedReads}
use Rattle.vx_query.proofs.CellLemmas.{and_left}
use Rattle.vx_query.proofs.CauseLemmas.{breaks_by_one}
use Rattle.vx_query.proofs.StatisticsLemmas.{agree_by, names_by}
use Rattle.vx_query.proofs.SoundScans.{request_names}
use Rattle.vx_query.proofs.BlockAgreementLemmas.{agree_in}
use Rattle.vx_query.proofs.RequestEnds.{not_none}

-- ---- reads that are some of others

pub among_trans : (xs ys zs : List Read) → AreAmong xs ys → AreAmong ys zs → AreAmong xs zs
among_trans [] ys zs h k = tt
among_trans (x ∷ xs) [] zs h k = absurd h
among_trans (x ∷ xs) (y ∷ ys) [] h k = absurd k
among_trans (x ∷ xs) (y ∷ ys) (z ∷ zs) h (inr k) = inr (among_trans (x ∷ xs) (y ∷ ys) zs h k)
among_trans (x ∷ xs) (y ∷ ys) (z ∷ zs) (inl h) (inl k) = inl (h.0 ∙ k.0, among_trans xs ys zs h.1 k.1)
among_trans (x ∷ xs) (y ∷ ys) (z ∷ zs) (inr h) (inl k) = inr (among_trans (x ∷ xs) ys zs h k.1)

-- the reads of the phases up to the first that breaks are among all
among_cond : (b : Bool) (made all : List Read) → AreAmong made all → AreAmong (cond b [] made) all
among_cond true made all h = among_nothing all
among_cond false made all h = h

cond_reads : (b : Bool) (phases : List Phase) → phase_reads (cond b [] phases) ≡ cond b [] (phase_reads phases)
cond_reads true phases = refl
cond_reads false phases = refl

to_break_among : (t : Ty) (slots : Slots) (phases : List Phase) → AreAmong (phase_reads (phases_to_break t slots phases)) (phase_reads phases)
to_break_among t slots [] = tt
to_break_among t slots (phase ∷ phases) =
    among_append phase.reads (phase_reads (cond (phase_breaks t slots phase) [] (phases_to_break t slots phases))) phase.reads (phase_reads phases)
    (among_all phase.reads)
    (subst (λ rs. AreAmong rs (phase_reads phases)) (sym (cond_reads (phase_breaks t slots phase) (phases_to_break t slots phases)))
    (among_cond (phase_breaks t slots phase) (phase_reads (phases_to_break t slots phases)) (phase_reads phases) (to_break_among t slots phases)))

-- ---- the reads of a scan

further_among : (b : Bool) (further : List Read) → AreAmong (cond b further []) further
further_among true further = among_all further
further_among false further = among_nothing further

pub blocks_among : (a : RequestedScan) (f p : Tree) (bs : List (ℕ × List Val))
    → AreAmong (flat_map (block_reads (row_type a.zones.columns) [] f p) bs) (flat_map (block_asked a.zones f p) (map (λ b. b.0) bs))
blocks_among a f p [] = tt
blocks_among a f p (b ∷ bs) =
    let t = row_type a.zones.columns in
    let own = reads_in b.0 (asked_columns t f) in
    let further = reads_in b.0 (further_columns t f p) in
    let some = has_rows (matching_rows t [] f b.1) in
    among_append (own ++ cond some further []) (flat_map (block_reads t [] f p) bs) (own ++ further) (flat_map (block_asked a.zones f p) (map (λ b. b.0) bs))
    (among_append own (cond some further []) own further (among_all own) (further_among some further)) (blocks_among a f p bs)

-- a table whose blocks agree with its zones has as many as these have lengths
pub as_many : (a : RequestedScan) → agree (Ok a) ≡ true → length (scan_table a).blocks ≡ length a.zones.lengths
as_many a agreeing =
    let lengths : have_lengths a.zones a.blocks ≡ true = and_left (have_lengths a.zones a.blocks) (have_types a.zones a.blocks) agreeing in
    let same = table_lengths a.zones.columns (length (field_names a.zones.columns)) a.zones.lengths a.blocks lengths in
    sym (length-map (scan_table a).blocks length) ∙ ap (λ ns. length ns) same

reads_among : KeptNumbersAreKeptBlocks → (a : RequestedScan) (f p : Tree) → agree (Ok a) ≡ true → AreAmong (scan_reads a f p) (asked_reads a.zones [] f p)
reads_among kept a f p agreeing =
    let blocks = kept_of (scan_table a) a.zones [] f in
    let numbers : map (λ b. b.0) blocks ≡ kept_blocks a.zones [] f = kept a.zones (scan_table a) [] f (as_many a agreeing) in
    subst (λ rs. AreAmong rs (asked_reads a.zones [] f p)) (sym (reads_by_block (scan_table a) a.zones [] f p))
    (subst (λ ns. AreAmong (flat_map (block_reads (row_type a.zones.columns) [] f p) blocks) (flat_map (block_asked a.zones f p) ns)) numbers
    (blocks_among a f p blocks))

-- ---- the reads that are needed

name_itself : (f : Bytes) → bytes_eq f f ≡ true
name_itself f = (bytes_eq-Decides f f).1 refl

-- what some block of a list meets that a test asks, some block of the other list does
abbrev Block : Type 0
Block = ℕ × List Val

abbrev StandsIn : List Block → Block → Type 0
StandsIn all b = (test : Block → Bool) → test b ≡ true → list_any test all ≡ true

stand_in : (all : List Block) → AllByRecursion (StandsIn all) all
stand_in [] = tt
stand_in (b ∷ bs) = (
  λ test h. or_left (test b) (list_any test bs) h,
  all_so (StandsIn bs) (StandsIn (b ∷ bs)) (λ c k test h. or_right (test b) (list_any test bs) (k test h)) bs (stand_in bs),
)

-- whether a block has this number, and a row at which the filter means true
abbrev is_matching : Ty → Tree → ℕ → Block → Bool
is_matching t f n b = nat_eq n b.0 && has_rows (matching_rows t [] f b.1)

abbrev is_needed_in : Ty → Tree → List Block → Read → Bool
is_needed_in t f all r = has_name r.1 (asked_columns t f) || list_any (is_matching t f r.0) all

own_needed : (t : Ty) (f : Tree) (all : List Block) (n : ℕ) (names : List Bytes) → AllByRecursion (λ c. has_name c (asked_columns t f) ≡ true) names
    → list_all (is_needed_in t f all) (reads_in n names) ≡ true
own_needed t f all n [] h = refl
own_needed t f all n (c ∷ names) h =
    and_from (is_needed_in t f all (n, c)) (list_all (is_needed_in t f all) (reads_in n names))
    (or_left (has_name c (asked_columns t f)) (list_any (is_matching t f n) all) h.0) (own_needed t f all n names h.1)

further_needed : (t : Ty) (f : Tree) (all : List Block) (n : ℕ) (names : List Bytes) → list_any (is_matching t f n) all ≡ true
    → list_all (is_needed_in t f all) (reads_in n names) ≡ true
further_needed t f all n [] h = refl
further_needed t f all n (c ∷ names) h =
    and_from (is_needed_in t f all (n, c)) (list_all (is_needed_in t f all) (reads_in n names))
    (or_right (has_name c (asked_columns t f)) (list_any (is_matching t f n) all) h) (further_needed t f all n names h)

where_some : (t : Ty) (f : Tree) (all : List Block) (b : Block) (names : List Bytes) (some : Bool) → StandsIn all b
    → has_rows (matching_rows t [] f b.1) ≡ some
    → list_all (is_needed_in t f all) (cond some (reads_in b.0 names) []) ≡ true
where_some t f all b names true stands h =
    further_needed t f all b.0 names
    (stands (is_matching t f b.0) (and_from (nat_eq b.0 b.0) (has_rows (matching_rows t [] f b.1)) (number_itself b.0) h))
where_some t f all b names false stands h = refl

blocks_needed : (t : Ty) (f p : Tree) (all bs : List Block) → AllByRecursion (StandsIn all) bs
    → list_all (is_needed_in t f all) (flat_map (block_reads t [] f p) bs) ≡ true
blocks_needed t f p all [] h = refl
blocks_needed t f p all (b ∷ bs) h =
    let test = is_needed_in t f all in
    let own = reads_in b.0 (asked_columns t f) in
    let further = cond (has_rows (matching_rows t [] f b.1)) (reads_in b.0 (further_columns t f p)) [] in
    let rest = flat_map (block_reads t [] f p) bs in
    list_all-append test (own ++ further) rest
    ∙ and_from (list_all test (own ++ further)) (list_all test rest)
    (list_all-append test own further
    ∙ and_from (list_all test own) (list_all test further) (own_needed t f all b.0 (asked_columns t f) (all_here bytes_eq name_itself (asked_columns t f)))
    (where_some t f all b (further_columns t f p) (has_rows (matching_rows t [] f b.1)) h.0 refl))
    (blocks_needed t f p all bs h.1)

reads_needed : (a : RequestedScan) (f p : Tree) → list_all (is_needed_read a f) (scan_reads a f p) ≡ true
reads_needed a f p =
    let t = row_type a.zones.columns in
    let all = numbered_from 0 (scan_table a).blocks in
    let kept = all_passing (StandsIn all) (λ (b : Block). not (rules_out a.zones [] b.0 f)) all (stand_in all) in
    ap (list_all (is_needed_read a f)) (reads_by_block (scan_table a) a.zones [] f p)
    ∙ blocks_needed t f p all (kept_of (scan_table a) a.zones [] f) kept

-- ---- the store of a run

pub asked_alone : KeptNumbersAreKeptBlocks → (form : Option Form) (i i' o o' : End) (store : StoreSeen) (status : ℕ)
    → reads_request form ≡ true → asked_top form ≡ None → IsRun form i i' o o' (Some store) status → HasAskedReads form i i' store
asked_alone kept form i i' o o' store status reads no_top run = by run.outcome run.comes run.held
  where
    store_of : (chosen : Statistics) → form ≡ Some (scan_form chosen) → (input : Bytes) (a : RequestedScan) (f p : Tree) → IsTaken i i' input
        → HoldsScan input a f p → store ≡ store_after (scan_by chosen a) f p → AreAmong store.log (scan_reads (scan_by chosen a) f p)
        → HasAskedReads form i i' store
    store_of chosen scans input a f p taken asks held among =
        let b = scan_by chosen a in
        let agreeing : agree (Ok b) ≡ true = agree_by chosen a (ap agree (sym asks.asked) ∙ agree_in input) in
        let all = among_trans store.log (scan_reads b f p) (asked_reads b.zones [] f p) among (reads_among kept b f p agreeing) in
        record {
          scan = record { statistics = chosen; scans = scans; input = input; asked = a; filter = f; projection = p; taken = taken; asks = asks };
          held = held;
          all_asked = reads_are_asked b.zones [] f p store.log all;
          all_needed = among_pass (is_needed_read b f) store.log (scan_reads b f p) among (reads_needed b f p);
          distinct = reads_are_distinct b.zones [] f p store.log (names_by chosen a (request_names input a asks.asked)) all;
        }

    by : (outcome : Outcome) → IsOutcome form i i' outcome → Some store ≡ used_by outcome → HasAskedReads form i i' store
    by misused comes held = absurd (not_none held)
    by helped comes held = absurd (not_none held)
    by versioned comes held = absurd (not_none held)
    by out_of_memory comes held = absurd (not_none held)
    by unread comes held = absurd (not_none held)
    by (refused input e) comes held = absurd (not_none held)
    by (unscanned input e) comes held = absurd (not_none held)
    by (broken chosen cause input a f p) comes held =
        let b = scan_by chosen a in
        let whole : store_after b f p ≡ broken_store b f p =
        ap (λ x. cond x (broken_store b f p) (scanned_store b f p)) (breaks_by_one cause b f p comes.holds.1) in
        let log : store.log ≡ reads_to_break (scan_table b) b.zones [] f p = ap (λ s. s.log) (same_Some store (broken_store b f p) held) in
        store_of chosen comes.asks input a f p comes.taken comes.holds.0 (same_Some store (broken_store b f p) held ∙ sym whole)
        (subst (λ rs. AreAmong rs (scan_reads b f p)) (sym log) (to_break_among (row_type b.zones.columns) [] (phases_of (scan_table b) b.zones [] f p)))
    by (answered chosen input a f p) comes held =
        let b = scan_by chosen a in
        let whole : store_after b f p ≡ scanned_store b f p = ap (λ x. cond x (broken_store b f p) (scanned_store b f p)) comes.holds.1 in
        let log : store.log ≡ scan_reads b f p = ap (λ s. s.log) (same_Some store (scanned_store b f p) held) in
        store_of chosen comes.asks input a f p comes.taken comes.holds.0 (same_Some store (scanned_store b f p) held ∙ sym whole)
        (subst (λ rs. AreAmong rs (scan_reads b f p)) (sym log) (among_all (scan_reads b f p)))
    by (explained input a f p) comes held = absurd (not_none held)
    by undecoded comes held = absurd (not_none held)
    by (unshown e) comes held = absurd (not_none held)
    by (shown showing e) comes held = absurd (not_none held)
    by (unnamed e) comes held = absurd (not_none held)
    by unserialized comes held = absurd (not_none held)
    by overlong comes held = absurd (not_none held)
    by (named e) comes held = absurd (not_none held)
    by (summed rows) comes held = absurd (true≢false (sym reads ∙ ap reads_request comes.0))
    by (unkeyed top input r) comes held = absurd (not_none held)
    by (top_broken cause input a ask) comes held = absurd (not_none (sym (ap asked_top comes.asks) ∙ no_top))
    by (topped input a ask) comes held = absurd (not_none (sym (ap asked_top comes.asks) ∙ no_top))
    by (unfiled input) comes held = absurd (not_none held)
    by (filed input a) comes held = absurd (not_none held)
    by (file_ended input ending) comes held = absurd (not_none held)

-- The blocks before a block, one more of them, and all of them: the phases, the rows that are found, the skipped blocks and the reads that may be made.
use Rattle.std.proofs.Common.{◌≡◌, refl, ap, ap₂, sym, ◌∙◌, subst, ℕ, ◌+◌, ◌<◌, ◌≤◌, Bool, true, false, cond, ◌||◌, Some, List, [], ◌∷◌, ◌++◌, map, length, take, append-nil, ⊎_elim}
use Rattle.std.specs.Prelude.{nat_eq}
use Rattle.std.specs.List.{filter, flat_map, slice_get}
use Rattle.std.proofs.lemmas.Bool.{cases_Bool, or_parts}
use Rattle.std.proofs.lemmas.Grind.{flat_map-append}
use Rattle.vx_dtype.specs.Values.{Val}
use Rattle.vx_semantics.specs.Breaks.{Cause, by_sum, by_cast}
use Rattle.vx_semantics.specs.Pruning.{rules_out}
use Rattle.vx_semantics.specs.Tables.{Table, Zones, row_type, numbered_from}
use Rattle.vx_semantics.specs.Scans.{block_phases, kept_blocks}
use Rattle.vx_dtype.specs.Types.{Ty}
use Rattle.vx_laws_topk.specs.TopRows.{Keyed, TopAsk, bounded_filter, bound_before, bound_slots, top_skips, block_keyed, found_with, found_over, skipped_over, top_skipped}
use Rattle.vx_laws_topk.specs.TopLaws.{has_no_slot}
use Rattle.vx_laws_topk.specs.TopPhases.{SlottedPhase, keyed_projection, phases_with, phases_over, top_phases, top_blocks, top_asked}
use Rattle.vx_laws_topk.specs.BoundLaws.{PassesNoFurther}
use Rattle.vx_laws_topk.proofs.BoundedFilters.{bounded_filter_rules_out, bounded_filter_asks, keyed_projection_asks}
use Rattle.vx_laws_topk.proofs.OneMore.{found_over_more, phases_over_more, skipped_over_more}
use Rattle.vx_scan.specs.Stores.{Read}
use Rattle.vx_scan.specs.Scanning.{AreAmong, can_break_by, asks_breaking, some_block}
use Rattle.vx_scan.specs.BlockRuns.{block_asked}
use Rattle.vx_scan.specs.Runs.{kept_numbers_before}
use Rattle.vx_scan.proofs.AmongLemmas.{among_more, among_append}
use Rattle.vx_scan.proofs.StepLemmas.{step_in, step_end, step_split, kept_numbers_out, kept_numbers_in, kept_numbers_split, block_kept}
use Rattle.vx_topk.specs.TopRuns.{top_phases_before, found_before, top_skipped_before, top_asked_before}
use Rattle.vx_topk.proofs.TopRunLemmas.{slotted}

-- ---- numbered items

all-pass : {X : Type 0} (xs : List X) → filter (λ (x : X). true) xs ≡ xs
all-pass [] = refl
all-pass {X} (x ∷ xs) = ap (λ (ys : List X). x ∷ ys) (all-pass xs)

pub numbered-in : {X : Type 0} (i : ℕ) (xs : List X) (x : X) → slice_get xs i ≡ Some x → numbered_from 0 (take (i + 1) xs) ≡ numbered_from 0 (take i xs) ++ (i, x) ∷ []
numbered-in {X} i xs x h =
    sym (all-pass (numbered_from 0 (take (i + 1) xs))) ∙ step_in (λ (n : ℕ). true) i xs x h refl
    ∙ ap (λ (ys : List (ℕ × X)). ys ++ (i, x) ∷ []) (all-pass (numbered_from 0 (take i xs)))

pub numbered-end : {X : Type 0} (i : ℕ) (xs : List X) → length xs ≤ i → numbered_from 0 (take i xs) ≡ numbered_from 0 xs
numbered-end i xs h = sym (all-pass (numbered_from 0 (take i xs))) ∙ step_end (λ (n : ℕ). true) i xs h ∙ all-pass (numbered_from 0 xs)

numbered-split : {X : Type 0} (i : ℕ) (xs : List X) → (rest : List (ℕ × X)) × (numbered_from 0 xs ≡ numbered_from 0 (take i xs) ++ rest)
numbered-split {X} i xs =
    let split = step_split (λ (n : ℕ). true) i xs in
    (split.0, sym (all-pass (numbered_from 0 xs)) ∙ split.1 ∙ ap (λ (ys : List (ℕ × X)). ys ++ split.0) (all-pass (numbered_from 0 (take i xs))))

-- ---- one block more of a told table

module _ (ask : TopAsk) (table : Table) (zones : Zones) (i : ℕ) (rows : List Val) (there : slice_get table.blocks i ≡ Some rows) where
  phases-more : top_phases_before ask table zones (i + 1) ≡ top_phases_before ask table zones i ++ phases_with ask (row_type table.columns) zones (found_before ask table zones i) (i, rows)
  phases-more =
      ap (phases_over ask (row_type table.columns) zones []) (numbered-in i table.blocks rows there)
      ∙ phases_over_more ask (row_type table.columns) zones [] (numbered_from 0 (take i table.blocks)) ((i, rows) ∷ [])
      ∙ ap (λ (ss : List SlottedPhase). top_phases_before ask table zones i ++ ss) (append-nil (phases_with ask (row_type table.columns) zones (found_before ask table zones i) (i, rows)))

  found-more : found_before ask table zones (i + 1) ≡ found_with ask (row_type table.columns) zones (found_before ask table zones i) (i, rows)
  found-more =
      ap (found_over ask (row_type table.columns) zones []) (numbered-in i table.blocks rows there)
      ∙ found_over_more ask (row_type table.columns) zones [] (numbered_from 0 (take i table.blocks)) ((i, rows) ∷ [])

  skipped-more : top_skipped_before ask table zones (i + 1)
      ≡ top_skipped_before ask table zones i ++ skipped_over ask (row_type table.columns) zones (found_before ask table zones i) ((i, rows) ∷ [])
  skipped-more =
      ap (skipped_over ask (row_type table.columns) zones []) (numbered-in i table.blocks rows there)
      ∙ skipped_over_more ask (row_type table.columns) zones [] (numbered_from 0 (take i table.blocks)) ((i, rows) ∷ [])

  -- that is skipped
  pub phases-out : top_skips ask zones (found_before ask table zones i) i ≡ true → top_phases_before ask table zones (i + 1) ≡ top_phases_before ask table zones i
  phases-out h =
      phases-more
      ∙ ap (λ (b : Bool). top_phases_before ask table zones i ++ cond b [] (map (slotted (bound_slots ask (bound_before ask (found_before ask table zones i))))
      (block_phases (row_type table.columns) (bound_slots ask (bound_before ask (found_before ask table zones i))) (bounded_filter ask) (keyed_projection ask) (i, rows)))) h
      ∙ append-nil (top_phases_before ask table zones i)

  pub found-out : top_skips ask zones (found_before ask table zones i) i ≡ true → found_before ask table zones (i + 1) ≡ found_before ask table zones i
  found-out h =
      found-more
      ∙ ap (λ (b : Bool). cond b (found_before ask table zones i) (found_before ask table zones i
      ++ block_keyed ask (row_type table.columns) (bound_slots ask (bound_before ask (found_before ask table zones i))) (bounded_filter ask) rows)) h

  pub skipped-out : top_skips ask zones (found_before ask table zones i) i ≡ true → top_skipped_before ask table zones (i + 1) ≡ top_skipped_before ask table zones i ++ i ∷ []
  skipped-out h = skipped-more ∙ ap (λ (b : Bool). top_skipped_before ask table zones i ++ cond b (i ∷ []) []) h

  -- that is kept
  pub phases-in : top_skips ask zones (found_before ask table zones i) i ≡ false
      → top_phases_before ask table zones (i + 1)
      ≡ top_phases_before ask table zones i ++ map (slotted (bound_slots ask (bound_before ask (found_before ask table zones i))))
      (block_phases (row_type table.columns) (bound_slots ask (bound_before ask (found_before ask table zones i))) (bounded_filter ask) (keyed_projection ask) (i, rows))
  phases-in h =
      phases-more
      ∙ ap (λ (b : Bool). top_phases_before ask table zones i ++ cond b [] (map (slotted (bound_slots ask (bound_before ask (found_before ask table zones i))))
      (block_phases (row_type table.columns) (bound_slots ask (bound_before ask (found_before ask table zones i))) (bounded_filter ask) (keyed_projection ask) (i, rows)))) h

  pub found-in : top_skips ask zones (found_before ask table zones i) i ≡ false
      → found_before ask table zones (i + 1) ≡ found_before ask table zones i
      ++ block_keyed ask (row_type table.columns) (bound_slots ask (bound_before ask (found_before ask table zones i))) (bounded_filter ask) rows
  found-in h =
      found-more
      ∙ ap (λ (b : Bool). cond b (found_before ask table zones i) (found_before ask table zones i
      ++ block_keyed ask (row_type table.columns) (bound_slots ask (bound_before ask (found_before ask table zones i))) (bounded_filter ask) rows)) h

  pub skipped-in : top_skips ask zones (found_before ask table zones i) i ≡ false → top_skipped_before ask table zones (i + 1) ≡ top_skipped_before ask table zones i
  skipped-in h =
      skipped-more ∙ ap (λ (b : Bool). top_skipped_before ask table zones i ++ cond b (i ∷ []) []) h ∙ append-nil (top_skipped_before ask table zones i)

-- ---- all blocks

pub phases-end : (ask : TopAsk) (table : Table) (zones : Zones) (i : ℕ) → length table.blocks ≤ i → top_phases_before ask table zones i ≡ top_phases ask table zones
phases-end ask table zones i h = ap (phases_over ask (row_type table.columns) zones []) (numbered-end i table.blocks h)

pub phases-split : (ask : TopAsk) (table : Table) (zones : Zones) (i : ℕ) → (rest : List SlottedPhase) × (top_phases ask table zones ≡ top_phases_before ask table zones i ++ rest)
phases-split ask table zones i =
    let split = numbered-split i table.blocks in
    let t = row_type table.columns in (
      phases_over ask t zones (found_before ask table zones i) split.0,
      ap (phases_over ask t zones []) split.1 ∙ phases_over_more ask t zones [] (numbered_from 0 (take i table.blocks)) split.0,
    )

pub found-end : (ask : TopAsk) (table : Table) (zones : Zones) (i : ℕ) → length table.blocks ≤ i
    → found_before ask table zones i ≡ found_over ask (row_type table.columns) zones [] (numbered_from 0 table.blocks)
found-end ask table zones i h = ap (found_over ask (row_type table.columns) zones []) (numbered-end i table.blocks h)

pub skipped-end : (ask : TopAsk) (table : Table) (zones : Zones) (i : ℕ) → length table.blocks ≤ i → top_skipped_before ask table zones i ≡ top_skipped ask table zones
skipped-end ask table zones i h = ap (skipped_over ask (row_type table.columns) zones []) (numbered-end i table.blocks h)

-- ---- the reads that may be made

-- a block that isn't skipped isn't ruled out by the filter alone
pub not-ruled : (ask : TopAsk) (zones : Zones) (found : List Keyed) (i : ℕ) → has_no_slot ask.filter_expr ≡ true → top_skips ask zones found i ≡ false
    → rules_out zones [] i ask.filter_expr ≡ false
not-ruled ask zones found i slotless h =
    let slots = bound_slots ask (bound_before ask found) in
    let kept = (or_parts (nat_eq ask.count 0) (rules_out zones slots i (bounded_filter ask)) h).1 in
    ⊎_elim (λ (a : rules_out zones [] i ask.filter_expr ≡ true).
    let yes : rules_out zones slots i (bounded_filter ask) ≡ true = bounded_filter_rules_out zones slots i ask slotless a in
    let no : ⊥ = cc in absurd no)
    (λ (a : rules_out zones [] i ask.filter_expr ≡ false). a)
    (cases_Bool (rules_out zones [] i ask.filter_expr))

flat_more : (g : ℕ → List Read) (xs : List ℕ) (x : ℕ) → flat_map g (xs ++ x ∷ []) ≡ flat_map g xs ++ g x
flat_more g xs x = flat_map-append g xs (x ∷ []) ∙ ap (λ (ys : List Read). flat_map g xs ++ ys) (append-nil (g x))

asked-in : (ask : TopAsk) (zones : Zones) (i : ℕ) → i < length zones.lengths → rules_out zones [] i ask.filter_expr ≡ false
    → top_asked_before ask zones (i + 1) ≡ top_asked_before ask zones i ++ block_asked zones (bounded_filter ask) (keyed_projection ask) i
asked-in ask zones i l e =
    let g = block_asked zones (bounded_filter ask) (keyed_projection ask) in
    ap (flat_map g) (kept_numbers_in zones [] ask.filter_expr i l e) ∙ flat_more g (kept_numbers_before zones [] ask.filter_expr i) i

-- what may be made before a block may be made before the next
pub among-out : (ask : TopAsk) (zones : Zones) (i : ℕ) (made : List Read) → i < length zones.lengths → AreAmong made (top_asked_before ask zones i)
    → AreAmong made (top_asked_before ask zones (i + 1))
among-out ask zones i made l h =
    let g = block_asked zones (bounded_filter ask) (keyed_projection ask) in
    ⊎_elim (λ (a : rules_out zones [] i ask.filter_expr ≡ true).
    subst (λ (all : List Read). AreAmong made all) (sym (ap (flat_map g) (kept_numbers_out zones [] ask.filter_expr i l a))) h)
    (λ (a : rules_out zones [] i ask.filter_expr ≡ false).
    subst (λ (all : List Read). AreAmong made all) (sym (asked-in ask zones i l a)) (among_more made (top_asked_before ask zones i) (g i) h))
    (cases_Bool (rules_out zones [] i ask.filter_expr))

-- and with it what a kept block asks
pub among-in : (ask : TopAsk) (zones : Zones) (i : ℕ) (front made : List Read) → i < length zones.lengths → rules_out zones [] i ask.filter_expr ≡ false
    → AreAmong front (top_asked_before ask zones i) → AreAmong made (block_asked zones (bounded_filter ask) (keyed_projection ask) i)
    → AreAmong (front ++ made) (top_asked_before ask zones (i + 1))
among-in ask zones i front made l e h k =
    subst (λ (all : List Read). AreAmong (front ++ made) all) (sym (asked-in ask zones i l e))
    (among_append front made (top_asked_before ask zones i) (block_asked zones (bounded_filter ask) (keyed_projection ask) i) h k)

-- the blocks that the filter alone doesn't rule out
abbrev top_kept : TopAsk → Zones → List ℕ
top_kept ask zones = kept_blocks zones [] ask.filter_expr

-- all of them, where some row is asked
all-asked : (ask : TopAsk) (zones : Zones) → nat_eq ask.count 0 ≡ false
    → top_asked ask zones ≡ flat_map (block_asked zones (bounded_filter ask) (keyed_projection ask)) (top_blocks ask zones)
all-asked ask zones some = refl

pub among-all : (ask : TopAsk) (zones : Zones) (i : ℕ) (made : List Read) → nat_eq ask.count 0 ≡ false → AreAmong made (top_asked_before ask zones i) → AreAmong made (top_asked ask zones)
among-all ask zones i made some h =
    let g = block_asked zones (bounded_filter ask) (keyed_projection ask) in
    let split = kept_numbers_split zones [] ask.filter_expr i in
    let all : top_asked ask zones ≡ top_asked_before ask zones i ++ flat_map g split.0 =
    all-asked ask zones some
    ∙ ap (λ (b : Bool). flat_map g (cond b [] (top_kept ask zones))) some
    ∙ ap (flat_map g) split.1 ∙ flat_map-append g (kept_numbers_before zones [] ask.filter_expr i) split.0 in
    subst (λ (rs : List Read). AreAmong made rs) (sym all) (among_more made (top_asked_before ask zones i) (flat_map g split.0) h)

pub block-there : (ask : TopAsk) (zones : Zones) (i : ℕ) → nat_eq ask.count 0 ≡ false → i < length zones.lengths → rules_out zones [] i ask.filter_expr ≡ false
    → some_block (top_blocks ask zones) ≡ true
block-there ask zones i some l e = ap (λ (b : Bool). some_block (cond b [] (top_kept ask zones))) some ∙ block_kept zones [] ask.filter_expr i l e

-- ---- what can break

passes-no-further : (c : Cause) → PassesNoFurther (can_break_by c)
passes-no-further by_sum =
    record { conjunction = λ l r. refl; comparison = λ e op k t default. refl; access = λ f e. refl; packing = λ names es n. refl }
passes-no-further by_cast =
    record { conjunction = λ l r. refl; comparison = λ e op k t default. refl; access = λ f e. refl; packing = λ names es n. refl }

pub asks-same : (c : Cause) (t : Ty) (ask : TopAsk)
    → (asks_breaking c t (bounded_filter ask) || asks_breaking c t (keyed_projection ask)) ≡ (asks_breaking c t ask.filter_expr || asks_breaking c t ask.projection)
asks-same c t ask =
    ap₂ (λ (a b : Bool). a || b) (bounded_filter_asks (can_break_by c) t ask (passes-no-further c)) (keyed_projection_asks (can_break_by c) t ask (passes-no-further c))

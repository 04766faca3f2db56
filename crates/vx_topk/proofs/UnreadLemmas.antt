-- No read is made of a skipped block: reads are made of blocks before the one that the finding has come to, and then of that one where it is kept.
use Rattle.std.proofs.Common.{◌≡◌, refl, ap, ◌∙◌, ℕ, zero, suc, ◌+◌, ◌<◌, ◌≤◌, Bool, true, false, not, ◌||◌, List, [], ◌∷◌, ◌++◌, map, take, arith, inl, inr, ⊎_elim, eqb-true}
use Rattle.std.specs.Prelude.{nat_eq}
use Rattle.std.specs.List.{flat_map, list_any}
use Rattle.std.proofs.lemmas.Bool.{cases_Bool, or_parts, or_from}
use Rattle.std.proofs.lemmas.List.Folds.{list_any-append}
use Rattle.vx_dtype.specs.Types.{Bytes}
use Rattle.vx_expr.specs.Trees.{Tree}
use Rattle.vx_semantics.specs.Asked.{asked_columns}
use Rattle.vx_semantics.specs.Pruning.{rules_out}
use Rattle.vx_semantics.specs.Scans.{reads_in, further_columns}
use Rattle.vx_semantics.specs.Tables.{Zones, row_type, numbered_from}
use Rattle.vx_laws_topk.specs.TopRows.{TopAsk, bounded_filter}
use Rattle.vx_laws_topk.specs.TopPhases.{keyed_projection}
use Rattle.vx_scan.specs.Stores.{Read}
use Rattle.vx_scan.specs.Scanning.{AreAmong}
use Rattle.vx_scan.specs.BlockRuns.{block_asked}
use Rattle.vx_scan.specs.Runs.{kept_numbers_before}
use Rattle.vx_topk.specs.TopEnds.{numbers_of, is_read_of}
use Rattle.vx_topk.specs.TopRuns.{top_asked_before, SkipsBefore}
use Rattle.vx_topk.proofs.SkipLemmas.{passing-among}

-- what none of some items is, none of those among them is
among-none : {X : Type 0} (test : X → Bool) (made all : List X) → AreAmong made all → list_any test all ≡ false → list_any test made ≡ false
among-none test [] all h k = refl
among-none test (x ∷ made) [] h k = absurd h
among-none test (x ∷ made) (y ∷ all) (inl h) k =
    let parts = or_parts (test y) (list_any test all) k in
    or_from (test x) (list_any test made) (ap test h.0 ∙ parts.0) (among-none test made all h.1 parts.1)
among-none test (x ∷ made) (y ∷ all) (inr h) k = among-none test (x ∷ made) all h (or_parts (test y) (list_any test all) k).1

apart : (a b : ℕ) → (a ≡ b → ⊥) → nat_eq a b ≡ false
apart a b h = ⊎_elim (λ (e : nat_eq a b ≡ true). absurd (h (eqb-true a b e))) (λ (e : nat_eq a b ≡ false). e) (cases_Bool (nat_eq a b))

-- what no number before a block is, no number of the blocks before it is
numbers-before : {X : Type 0} (test : ℕ → Bool) (j k n : ℕ) (xs : List X) → ((m : ℕ) → m < j → test m ≡ false) → k + n ≤ j
    → list_any test (map (λ (b : ℕ × X). b.0) (numbered_from k (take n xs))) ≡ false
numbers-before test j k zero xs h l = refl
numbers-before test j k (suc n) [] h l = refl
numbers-before {X} test j k (suc n) (x ∷ xs) h l =
    or_from (test k) (list_any test (map (λ (b : ℕ × X). b.0) (numbered_from (suc k) (take n xs)))) (h k (omega (arith, l)))
    (numbers-before test j (suc k) n xs h (omega (arith, l)))

-- what no read of a block is
reads-none : (test : Read → Bool) (block : ℕ) (names : List Bytes) → ((c : Bytes) → test (block, c) ≡ false) → list_any test (reads_in block names) ≡ false
reads-none test block [] h = refl
reads-none test block (c ∷ cs) h = or_from (test (block, c)) (list_any test (reads_in block cs)) (h c) (reads-none test block cs h)

block-none : (test : Read → Bool) (zones : Zones) (f p : Tree) (block : ℕ) → ((c : Bytes) → test (block, c) ≡ false) → list_any test (block_asked zones f p block) ≡ false
block-none test zones f p block h =
    let t = row_type zones.columns in
    let first = reads_in block (asked_columns t f) in
    let further = reads_in block (further_columns t f p) in
    list_any-append test first further
    ∙ or_from (list_any test first) (list_any test further) (reads-none test block (asked_columns t f) h) (reads-none test block (further_columns t f p) h)

blocks-none : (zones : Zones) (f p : Tree) (j : ℕ) (ns : List ℕ) → list_any (λ (n : ℕ). nat_eq n j) ns ≡ false
    → list_any (λ (r : Read). nat_eq r.0 j) (flat_map (block_asked zones f p) ns) ≡ false
blocks-none zones f p j [] h = refl
blocks-none zones f p j (n ∷ ns) h =
    let test : Read → Bool = λ r. nat_eq r.0 j in
    let parts = or_parts (nat_eq n j) (list_any (λ (m : ℕ). nat_eq m j) ns) h in
    list_any-append test (block_asked zones f p n) (flat_map (block_asked zones f p) ns)
    ∙ or_from (list_any test (block_asked zones f p n)) (list_any test (flat_map (block_asked zones f p) ns)) (block-none test zones f p n (λ c. parts.0))
    (blocks-none zones f p j ns parts.1)

-- no read before a block is one of it
pub unread-here : (ask : TopAsk) (zones : Zones) (i : ℕ) (made : List Read) → AreAmong made (top_asked_before ask zones i) → list_any (λ (r : Read). nat_eq r.0 i) made ≡ false
unread-here ask zones i made h =
    let kept = kept_numbers_before zones [] ask.filter_expr i in
    let within : 0 + i ≤ i = omega arith in
    let none : list_any (λ (n : ℕ). nat_eq n i) (numbers_of (take i zones.lengths)) ≡ false =
    numbers-before (λ (n : ℕ). nat_eq n i) i 0 i zones.lengths (λ m l. apart m i (λ e. omega (arith, e, l))) within in
    let some : AreAmong kept (numbers_of (take i zones.lengths)) =
    passing-among (λ n. not (rules_out zones [] n ask.filter_expr)) (numbered_from 0 (take i zones.lengths)) in
    among-none (λ (r : Read). nat_eq r.0 i) made (top_asked_before ask zones i) h
    (blocks-none zones (bounded_filter ask) (keyed_projection ask) i kept (among-none (λ (n : ℕ). nat_eq n i) kept (numbers_of (take i zones.lengths)) some none))

-- so none is one of the skipped blocks, where it is skipped too
pub unread-out : (skips : List ℕ) (i : ℕ) (made : List Read) → list_any (is_read_of skips) made ≡ false → list_any (λ (r : Read). nat_eq r.0 i) made ≡ false
    → list_any (is_read_of (skips ++ i ∷ [])) made ≡ false
unread-out skips i [] h k = refl
unread-out skips i (r ∷ made) h k =
    let elsewhere = or_parts (is_read_of skips r) (list_any (is_read_of skips) made) h in
    let here = or_parts (nat_eq r.0 i) (list_any (λ (s : Read). nat_eq s.0 i) made) k in
    or_from (is_read_of (skips ++ i ∷ []) r) (list_any (is_read_of (skips ++ i ∷ [])) made)
    (list_any-append (nat_eq r.0) skips (i ∷ []) ∙ or_from (is_read_of skips r) (nat_eq r.0 i || false) elsewhere.0 (or_from (nat_eq r.0 i) false here.0 refl))
    (unread-out skips i made elsewhere.1 here.1)

-- nor where it is kept and read
pub unread-in : (ask : TopAsk) (zones other : Zones) (i : ℕ) (skips : List ℕ) (front made : List Read) → SkipsBefore ask zones i skips → list_any (is_read_of skips) front ≡ false
    → AreAmong made (block_asked other (bounded_filter ask) (keyed_projection ask) i) → list_any (is_read_of skips) (front ++ made) ≡ false
unread-in ask zones other i skips front made s h k =
    let f = bounded_filter ask in
    let p = keyed_projection ask in
    let within : 0 + i ≤ i = omega arith in
    let none : list_any (nat_eq i) (numbers_of (take i zones.lengths)) ≡ false =
    numbers-before (nat_eq i) i 0 i zones.lengths (λ m l. apart i m (λ e. omega (arith, e, l))) within in
    let unskipped : list_any (nat_eq i) skips ≡ false = among-none (nat_eq i) skips (numbers_of (take i zones.lengths)) s.blocks none in
    list_any-append (is_read_of skips) front made
    ∙ or_from (list_any (is_read_of skips) front) (list_any (is_read_of skips) made) h
    (among-none (is_read_of skips) made (block_asked other f p i) k (block-none (is_read_of skips) other f p i (λ c. unskipped)))

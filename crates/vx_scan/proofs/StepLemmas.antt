-- The blocks before a block, one more of them, and all of them: their numbers, their phases, their rows and the reads that they ask.
use Rattle.std.proofs.Common.{◌≡◌, refl, ap, sym, ◌∙◌, ℕ, zero, suc, ◌+◌, ◌<◌, ◌≤◌, Bool, true, false, cond, not, Some, List, [], ◌∷◌, ◌++◌, map, length, take, drop, get_or, arith}
use Rattle.std.specs.List.{filter, flat_map, slice_get}
use Rattle.std.proofs.lemmas.Grind.{flat_map-append}
use Rattle.std.proofs.lemmas.List.{append-nil, take_all, take-append-drop, map-append, length-map}
use Rattle.std.proofs.lemmas.List.Elements.{filter-append}
use Rattle.std.proofs.lemmas.Option.{slice_get-get_or}
use Rattle.vx_dtype.specs.Values.{Val}
use Rattle.vx_expr.specs.Trees.{Tree}
use Rattle.vx_semantics.specs.Meaning.{Slots}
use Rattle.vx_semantics.specs.Pruning.{rules_out}
use Rattle.vx_semantics.specs.Tables.{Table, Zones, row_type, numbered_from}
use Rattle.vx_semantics.specs.Scans.{Phase, block_phases, block_rows, phases_of, kept_rows_of, kept_blocks, skipped_blocks, kept_of}
use Rattle.vx_scan.specs.Stores.{Read, AgreesWith}
use Rattle.vx_scan.specs.Scanning.{asked_reads, some_block}
use Rattle.vx_scan.specs.BlockRuns.{block_asked}
use Rattle.vx_scan.specs.Runs.{kept_before, phases_before, rows_before, kept_numbers_before, skipped_numbers_before, asked_before}

pub numbered_append : {X : Type 0} (n : ℕ) (xs ys : List X) → numbered_from n (xs ++ ys) ≡ numbered_from n xs ++ numbered_from (n + length xs) ys
numbered_append n [] ys = let start : n ≡ n + 0 = omega arith in ap (λ (m : ℕ). numbered_from m ys) start
numbered_append {X} n (x ∷ xs) ys =
    let next : suc n + length xs ≡ n + suc (length xs) = omega arith in
    ap (λ (ns : List (ℕ × X)). (n, x) ∷ ns) (numbered_append (suc n) xs ys ∙ ap (λ (m : ℕ). numbered_from (suc n) xs ++ numbered_from m ys) next)

numbered_more : {X : Type 0} (n i : ℕ) (xs : List X) (x : X) → slice_get xs i ≡ Some x → numbered_from n (take (suc i) xs) ≡ numbered_from n (take i xs) ++ ((n + i, x) ∷ [])
numbered_more n i [] x h = absurd cc
numbered_more n zero (y ∷ xs) x h =
    let same : y ≡ x = cc in
    let start : n ≡ n + 0 = omega arith in
    λ j. (start j, same j) ∷ []
numbered_more {X} n (suc i) (y ∷ xs) x h =
    let next : suc n + i ≡ n + suc i = omega arith in
    ap (λ (ns : List (ℕ × X)). (n, y) ∷ ns) (numbered_more (suc n) i xs x h ∙ ap (λ (m : ℕ). numbered_from (suc n) (take i xs) ++ ((m, x) ∷ [])) next)

-- the items that pass by their numbers
abbrev pub passing : {X : Type 0} → (ℕ → Bool) → List X → List (ℕ × X)
passing test xs = filter (λ b. test b.0) (numbered_from 0 xs)

step : {X : Type 0} (test : ℕ → Bool) (i : ℕ) (xs : List X) (x : X) → slice_get xs i ≡ Some x
    → passing test (take (i + 1) xs) ≡ passing test (take i xs) ++ cond (test i) ((i, x) ∷ []) []
step {X} test i xs x h =
    let one : i + 1 ≡ suc i = omega arith in
    let at : 0 + i ≡ i = omega arith in
    ap (λ (n : ℕ). passing test (take n xs)) one
    ∙ ap (filter (λ (b : ℕ × X). test b.0)) (numbered_more 0 i xs x h ∙ ap (λ (m : ℕ). numbered_from 0 (take i xs) ++ ((m, x) ∷ [])) at)
    ∙ filter-append (λ (b : ℕ × X). test b.0) (numbered_from 0 (take i xs)) ((i, x) ∷ [])

pub step_out : {X : Type 0} (test : ℕ → Bool) (i : ℕ) (xs : List X) (x : X) → slice_get xs i ≡ Some x → test i ≡ false → passing test (take (i + 1) xs) ≡ passing test (take i xs)
step_out test i xs x h e =
    step test i xs x h ∙ ap (λ (b : Bool). passing test (take i xs) ++ cond b ((i, x) ∷ []) []) e ∙ append-nil (passing test (take i xs))

pub step_in : {X : Type 0} (test : ℕ → Bool) (i : ℕ) (xs : List X) (x : X) → slice_get xs i ≡ Some x → test i ≡ true
    → passing test (take (i + 1) xs) ≡ passing test (take i xs) ++ ((i, x) ∷ [])
step_in test i xs x h e = step test i xs x h ∙ ap (λ (b : Bool). passing test (take i xs) ++ cond b ((i, x) ∷ []) []) e

pub step_end : {X : Type 0} (test : ℕ → Bool) (i : ℕ) (xs : List X) → length xs ≤ i → passing test (take i xs) ≡ passing test xs
step_end {X} test i xs h = ap (λ (ys : List X). passing test ys) (take_all i xs h)

pub step_split : {X : Type 0} (test : ℕ → Bool) (i : ℕ) (xs : List X) → (rest : List (ℕ × X)) × (passing test xs ≡ passing test (take i xs) ++ rest)
step_split {X} test i xs =
    let front = take i xs in
    let back = numbered_from (0 + length front) (drop i xs) in
    let by : ℕ × X → Bool = λ b. test b.0 in (
      filter by back,
      ap (λ (ys : List X). passing test ys) (sym (take-append-drop i xs))
          ∙ ap (filter by) (numbered_append 0 front (drop i xs))
          ∙ filter-append by (numbered_from 0 front) back,
    )

-- a table that agrees with the zones has their blocks
pub block_there : (zones : Zones) (table : Table) (i : ℕ) → AgreesWith zones table → i < length zones.lengths → slice_get table.blocks i ≡ Some (get_or table.blocks i [])
block_there zones table i a l =
    let long : length (map length table.blocks) ≡ length table.blocks = length-map table.blocks length in
    let same : length (map length table.blocks) ≡ length zones.lengths = ap length a.lengths in
    slice_get-get_or table.blocks i [] (omega (arith, long, same, l))

pub no_more_blocks : (zones : Zones) (table : Table) → AgreesWith zones table → length table.blocks ≤ length zones.lengths
no_more_blocks zones table a =
    let long : length (map length table.blocks) ≡ length table.blocks = length-map table.blocks length in
    let same : length (map length table.blocks) ≡ length zones.lengths = ap length a.lengths in
    omega (arith, long, same)

-- the kept blocks of a table before a block
pub kept_before_out : (table : Table) (zones : Zones) (slots : Slots) (f : Tree) (i : ℕ) (rows : List Val) → slice_get table.blocks i ≡ Some rows
    → rules_out zones slots i f ≡ true → kept_before table zones slots f (i + 1) ≡ kept_before table zones slots f i
kept_before_out table zones slots f i rows h e = step_out (λ n. not (rules_out zones slots n f)) i table.blocks rows h (ap not e)

pub kept_before_in : (table : Table) (zones : Zones) (slots : Slots) (f : Tree) (i : ℕ) (rows : List Val) → slice_get table.blocks i ≡ Some rows
    → rules_out zones slots i f ≡ false → kept_before table zones slots f (i + 1) ≡ kept_before table zones slots f i ++ ((i, rows) ∷ [])
kept_before_in table zones slots f i rows h e = step_in (λ n. not (rules_out zones slots n f)) i table.blocks rows h (ap not e)

pub kept_before_end : (table : Table) (zones : Zones) (slots : Slots) (f : Tree) (i : ℕ) → length table.blocks ≤ i
    → kept_before table zones slots f i ≡ kept_of table zones slots f
kept_before_end table zones slots f i h = step_end (λ n. not (rules_out zones slots n f)) i table.blocks h

-- what is joined of the items of a list and of one more
flat_more : {X A : Type 0} (g : X → List A) (xs : List X) (x : X) → flat_map g (xs ++ (x ∷ [])) ≡ flat_map g xs ++ g x
flat_more {X} {A} g xs x = flat_map-append g xs (x ∷ []) ∙ ap (λ (ys : List A). flat_map g xs ++ ys) (append-nil (g x))

-- their phases
pub phases_before_out : (table : Table) (zones : Zones) (slots : Slots) (f p : Tree) (i : ℕ) (rows : List Val) → slice_get table.blocks i ≡ Some rows
    → rules_out zones slots i f ≡ true → phases_before table zones slots f p (i + 1) ≡ phases_before table zones slots f p i
phases_before_out table zones slots f p i rows h e =
    ap (flat_map (block_phases (row_type table.columns) slots f p)) (kept_before_out table zones slots f i rows h e)

pub phases_before_in : (table : Table) (zones : Zones) (slots : Slots) (f p : Tree) (i : ℕ) (rows : List Val) → slice_get table.blocks i ≡ Some rows
    → rules_out zones slots i f ≡ false
    → phases_before table zones slots f p (i + 1) ≡ phases_before table zones slots f p i ++ block_phases (row_type table.columns) slots f p (i, rows)
phases_before_in table zones slots f p i rows h e =
    let g : ℕ × List Val → List Phase = block_phases (row_type table.columns) slots f p in
    ap (flat_map g) (kept_before_in table zones slots f i rows h e) ∙ flat_more g (kept_before table zones slots f i) (i, rows)

pub phases_before_end : (table : Table) (zones : Zones) (slots : Slots) (f p : Tree) (i : ℕ) → length table.blocks ≤ i
    → phases_before table zones slots f p i ≡ phases_of table zones slots f p
phases_before_end table zones slots f p i h = ap (flat_map (block_phases (row_type table.columns) slots f p)) (kept_before_end table zones slots f i h)

pub phases_split : (table : Table) (zones : Zones) (slots : Slots) (f p : Tree) (i : ℕ)
    → (rest : List Phase) × (phases_of table zones slots f p ≡ phases_before table zones slots f p i ++ rest)
phases_split table zones slots f p i =
    let g : ℕ × List Val → List Phase = block_phases (row_type table.columns) slots f p in
    let split = step_split (λ n. not (rules_out zones slots n f)) i table.blocks in
    (flat_map g split.0, ap (flat_map g) split.1 ∙ flat_map-append g (kept_before table zones slots f i) split.0)

-- their rows
pub rows_before_out : (table : Table) (zones : Zones) (slots : Slots) (f p : Tree) (i : ℕ) (rows : List Val) → slice_get table.blocks i ≡ Some rows
    → rules_out zones slots i f ≡ true → rows_before table zones slots f p (i + 1) ≡ rows_before table zones slots f p i
rows_before_out table zones slots f p i rows h e =
    ap (flat_map (λ (b : ℕ × List Val). block_rows (row_type table.columns) slots f p b.1)) (kept_before_out table zones slots f i rows h e)

pub rows_before_in : (table : Table) (zones : Zones) (slots : Slots) (f p : Tree) (i : ℕ) (rows : List Val) → slice_get table.blocks i ≡ Some rows
    → rules_out zones slots i f ≡ false
    → rows_before table zones slots f p (i + 1) ≡ rows_before table zones slots f p i ++ block_rows (row_type table.columns) slots f p rows
rows_before_in table zones slots f p i rows h e =
    let g : ℕ × List Val → List Val = λ b. block_rows (row_type table.columns) slots f p b.1 in
    ap (flat_map g) (kept_before_in table zones slots f i rows h e) ∙ flat_more g (kept_before table zones slots f i) (i, rows)

pub rows_before_end : (table : Table) (zones : Zones) (slots : Slots) (f p : Tree) (i : ℕ) → length table.blocks ≤ i
    → rows_before table zones slots f p i ≡ kept_rows_of table zones slots f p
rows_before_end table zones slots f p i h =
    ap (flat_map (λ (b : ℕ × List Val). block_rows (row_type table.columns) slots f p b.1)) (kept_before_end table zones slots f i h)

-- the numbers of the kept blocks
pub kept_numbers_out : (zones : Zones) (slots : Slots) (f : Tree) (i : ℕ) → i < length zones.lengths → rules_out zones slots i f ≡ true
    → kept_numbers_before zones slots f (i + 1) ≡ kept_numbers_before zones slots f i
kept_numbers_out zones slots f i l e =
    ap (map (λ (b : ℕ × ℕ). b.0))
    (step_out (λ n. not (rules_out zones slots n f)) i zones.lengths (get_or zones.lengths i 0) (slice_get-get_or zones.lengths i 0 l) (ap not e))

pub kept_numbers_in : (zones : Zones) (slots : Slots) (f : Tree) (i : ℕ) → i < length zones.lengths → rules_out zones slots i f ≡ false
    → kept_numbers_before zones slots f (i + 1) ≡ kept_numbers_before zones slots f i ++ (i ∷ [])
kept_numbers_in zones slots f i l e =
    let test : ℕ → Bool = λ n. not (rules_out zones slots n f) in
    let long = get_or zones.lengths i 0 in
    ap (map (λ (b : ℕ × ℕ). b.0)) (step_in test i zones.lengths long (slice_get-get_or zones.lengths i 0 l) (ap not e))
    ∙ map-append (λ (b : ℕ × ℕ). b.0) (passing test (take i zones.lengths)) ((i, long) ∷ [])

pub kept_numbers_end : (zones : Zones) (slots : Slots) (f : Tree) (i : ℕ) → length zones.lengths ≤ i
    → kept_numbers_before zones slots f i ≡ kept_blocks zones slots f
kept_numbers_end zones slots f i h = ap (map (λ (b : ℕ × ℕ). b.0)) (step_end (λ n. not (rules_out zones slots n f)) i zones.lengths h)

pub kept_numbers_split : (zones : Zones) (slots : Slots) (f : Tree) (i : ℕ)
    → (rest : List ℕ) × (kept_blocks zones slots f ≡ kept_numbers_before zones slots f i ++ rest)
kept_numbers_split zones slots f i =
    let test : ℕ → Bool = λ n. not (rules_out zones slots n f) in
    let split = step_split test i zones.lengths in (
      map (λ (b : ℕ × ℕ). b.0) split.0,
      ap (map (λ (b : ℕ × ℕ). b.0)) split.1 ∙ map-append (λ (b : ℕ × ℕ). b.0) (passing test (take i zones.lengths)) split.0,
    )

-- where a block is kept there is one
some_there : (ns : List ℕ) (i : ℕ) (ms : List ℕ) → some_block ((ns ++ (i ∷ [])) ++ ms) ≡ true
some_there [] i ms = refl
some_there (n ∷ ns) i ms = refl

pub block_kept : (zones : Zones) (slots : Slots) (f : Tree) (i : ℕ) → i < length zones.lengths → rules_out zones slots i f ≡ false
    → some_block (kept_blocks zones slots f) ≡ true
block_kept zones slots f i l e =
    let split = kept_numbers_split zones slots f (i + 1) in
    ap some_block (split.1 ∙ ap (λ (ns : List ℕ). ns ++ split.0) (kept_numbers_in zones slots f i l e))
    ∙ some_there (kept_numbers_before zones slots f i) i split.0

-- the numbers of the skipped blocks
pub skipped_numbers_in : (zones : Zones) (slots : Slots) (f : Tree) (i : ℕ) → i < length zones.lengths → rules_out zones slots i f ≡ true
    → skipped_numbers_before zones slots f (i + 1) ≡ skipped_numbers_before zones slots f i ++ (i ∷ [])
skipped_numbers_in zones slots f i l e =
    let test : ℕ → Bool = λ n. rules_out zones slots n f in
    let long = get_or zones.lengths i 0 in
    ap (map (λ (b : ℕ × ℕ). b.0)) (step_in test i zones.lengths long (slice_get-get_or zones.lengths i 0 l) e)
    ∙ map-append (λ (b : ℕ × ℕ). b.0) (passing test (take i zones.lengths)) ((i, long) ∷ [])

pub skipped_numbers_out : (zones : Zones) (slots : Slots) (f : Tree) (i : ℕ) → i < length zones.lengths → rules_out zones slots i f ≡ false
    → skipped_numbers_before zones slots f (i + 1) ≡ skipped_numbers_before zones slots f i
skipped_numbers_out zones slots f i l e =
    ap (map (λ (b : ℕ × ℕ). b.0))
    (step_out (λ n. rules_out zones slots n f) i zones.lengths (get_or zones.lengths i 0) (slice_get-get_or zones.lengths i 0 l) e)

pub skipped_numbers_end : (zones : Zones) (slots : Slots) (f : Tree) (i : ℕ) → length zones.lengths ≤ i
    → skipped_numbers_before zones slots f i ≡ skipped_blocks zones slots f
skipped_numbers_end zones slots f i h = ap (map (λ (b : ℕ × ℕ). b.0)) (step_end (λ n. rules_out zones slots n f) i zones.lengths h)

-- the reads that the kept blocks ask
pub asked_before_out : (zones : Zones) (slots : Slots) (f p : Tree) (i : ℕ) → i < length zones.lengths → rules_out zones slots i f ≡ true
    → asked_before zones slots f p (i + 1) ≡ asked_before zones slots f p i
asked_before_out zones slots f p i l e = ap (flat_map (block_asked zones f p)) (kept_numbers_out zones slots f i l e)

pub asked_before_in : (zones : Zones) (slots : Slots) (f p : Tree) (i : ℕ) → i < length zones.lengths → rules_out zones slots i f ≡ false
    → asked_before zones slots f p (i + 1) ≡ asked_before zones slots f p i ++ block_asked zones f p i
asked_before_in zones slots f p i l e =
    ap (flat_map (block_asked zones f p)) (kept_numbers_in zones slots f i l e)
    ∙ flat_more (block_asked zones f p) (kept_numbers_before zones slots f i) i

pub asked_before_end : (zones : Zones) (slots : Slots) (f p : Tree) (i : ℕ) → length zones.lengths ≤ i
    → asked_before zones slots f p i ≡ asked_reads zones slots f p
asked_before_end zones slots f p i h = ap (flat_map (block_asked zones f p)) (kept_numbers_end zones slots f i h)

pub asked_split : (zones : Zones) (slots : Slots) (f p : Tree) (i : ℕ)
    → (rest : List Read) × (asked_reads zones slots f p ≡ asked_before zones slots f p i ++ rest)
asked_split zones slots f p i =
    let split = kept_numbers_split zones slots f i in (
      flat_map (block_asked zones f p) split.0,
      ap (flat_map (block_asked zones f p)) split.1 ∙ flat_map-append (block_asked zones f p) (kept_numbers_before zones slots f i) split.0,
    )

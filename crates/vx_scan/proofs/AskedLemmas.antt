-- The reads that a scan asks: each is of a kept block and of an asked column, and none stands twice.
use Rattle.std.proofs.Common.{◌≡◌, refl, ap, ◌∙◌, ℕ, suc, ◌<◌, ◌≤◌, Bool, true, false, cond, not, ◌||◌, nat_eq, List, [], ◌∷◌, ◌++◌, map, subst, arith, inl, inr}
use Rattle.std.specs.List.{list_any, list_all, filter, flat_map, AllByRecursion}
use Rattle.std.specs.Str.{bytes_eq}
use Rattle.std.proofs.lemmas.Bool.{and_parts, and_from, and_left, and_right, or_parts, or_from, or_left, or_right, eq-eqb, ne_eqb, both_ways}
use Rattle.std.proofs.lemmas.List.Folds.{list_any-append, list_all-append}
use Rattle.vx_dtype.specs.Types.{Bytes}
use Rattle.vx_dtype.specs.TypeRules.{has_name, field_names, distinct_names}
use Rattle.vx_expr.specs.Trees.{Tree}
use Rattle.vx_laws.proofs.Distinct.{not-has, has-not, distinct-filter}
use Rattle.vx_laws.proofs.Inverting.{bytes_same, bytes_eq-itself}
use Rattle.vx_semantics.specs.Meaning.{Slots}
use Rattle.vx_semantics.specs.Asked.{asked, column_in, asked_columns}
use Rattle.vx_semantics.specs.Pruning.{rules_out}
use Rattle.vx_semantics.specs.Tables.{Zones, row_type, numbered_from}
use Rattle.vx_semantics.specs.Scans.{kept_blocks, reads_in, further_columns}
use Rattle.vx_scan.specs.Stores.{Read}
use Rattle.vx_scan.specs.Scanning.{AreAmong, asked_reads}
use Rattle.vx_scan.specs.BlockRuns.{block_asked}
use Rattle.vx_scan.specs.ScanLaws.{is_asked_read, same_read, distinct_reads, ReadsAreAsked, ReadsAreDistinct}

-- what holds of each of some items
pub all_so : {X : Type 0} (P Q : X → Type 0) → ((x : X) → P x → Q x) → (xs : List X) → AllByRecursion P xs → AllByRecursion Q xs
all_so P Q e [] h = tt
all_so P Q e (x ∷ xs) h = (e x h.0, all_so P Q e xs h.1)

all_joined : {X : Type 0} (P : X → Type 0) (xs ys : List X) → AllByRecursion P xs → AllByRecursion P ys → AllByRecursion P (xs ++ ys)
all_joined P [] ys h k = k
all_joined P (x ∷ xs) ys h k = (h.0, all_joined P xs ys h.1 k)

pub all_passing : {X : Type 0} (P : X → Type 0) (test : X → Bool) (xs : List X) → AllByRecursion P xs → AllByRecursion P (filter test xs)
all_passing P test [] h = tt
all_passing {X} P test (x ∷ xs) h = by-test (test x) h.0 (all_passing P test xs h.1)
  where
    by-test : (b : Bool) → P x → AllByRecursion P (filter test xs) → AllByRecursion P (cond b (x ∷ filter test xs) (filter test xs))
    by-test true k r = (k, r)
    by-test false k r = r

-- each item is one of them, by a test that tells it from itself
pub all_here : {X : Type 0} (same : X → X → Bool) → ((x : X) → same x x ≡ true) → (xs : List X) → AllByRecursion (λ x. list_any (same x) xs ≡ true) xs
all_here same itself [] = tt
all_here {X} same itself (x ∷ xs) = (
  or_left (same x x) (list_any (same x) xs) (itself x),
  all_so (λ (y : X). list_any (same y) xs ≡ true) (λ (y : X). list_any (same y) (x ∷ xs) ≡ true) (λ y h. or_right (same y x) (list_any (same y) xs) h) xs
      (all_here same itself xs),
)

-- what a test says of all reads it says of some of them
pub among_pass : (test : Read → Bool) (made all : List Read) → AreAmong made all → list_all test all ≡ true → list_all test made ≡ true
among_pass test [] all h k = refl
among_pass test (r ∷ made) [] h k = absurd h
among_pass test (r ∷ made) (s ∷ all) (inl h) k =
    let parts = and_parts (test s) (list_all test all) k in
    and_from (test r) (list_all test made) (ap test h.0 ∙ parts.0) (among_pass test made all h.1 parts.1)
among_pass test (r ∷ made) (s ∷ all) (inr h) k = among_pass test (r ∷ made) all h (and_parts (test s) (list_all test all) k).1

among_fail : (test : Read → Bool) (made all : List Read) → AreAmong made all → list_any test all ≡ false → list_any test made ≡ false
among_fail test [] all h k = refl
among_fail test (r ∷ made) [] h k = absurd h
among_fail test (r ∷ made) (s ∷ all) (inl h) k =
    let parts = or_parts (test s) (list_any test all) k in
    or_from (test r) (list_any test made) (ap test h.0 ∙ parts.0) (among_fail test made all h.1 parts.1)
among_fail test (r ∷ made) (s ∷ all) (inr h) k = among_fail test (r ∷ made) all h (or_parts (test s) (list_any test all) k).1

among_distinct : (made all : List Read) → AreAmong made all → distinct_reads all ≡ true → distinct_reads made ≡ true
among_distinct [] all h k = refl
among_distinct (r ∷ made) [] h k = absurd h
among_distinct (r ∷ made) (s ∷ all) (inl h) k =
    let parts = and_parts (not (list_any (same_read s) all)) (distinct_reads all) k in
    let fresh : list_any (same_read s) made ≡ false = among_fail (same_read s) made all h.1 (not-has (list_any (same_read s) all) parts.0) in
    let own : list_any (same_read r) made ≡ false = ap (λ (q : Read). list_any (same_read q) made) h.0 ∙ fresh in
    and_from (not (list_any (same_read r) made)) (distinct_reads made) (has-not (list_any (same_read r) made) own) (among_distinct made all h.1 parts.1)
among_distinct (r ∷ made) (s ∷ all) (inr h) k =
    among_distinct (r ∷ made) all h (and_parts (not (list_any (same_read s) all)) (distinct_reads all) k).1

-- the reads of columns of a kept block are asked ones
reads_pass : (zones : Zones) (slots : Slots) (f p : Tree) (b : ℕ) (names : List Bytes) → list_any (nat_eq b) (kept_blocks zones slots f) ≡ true
    → AllByRecursion (λ c. (has_name c (asked_columns (row_type zones.columns) f) || has_name c (asked_columns (row_type zones.columns) p)) ≡ true) names
    → list_all (is_asked_read zones slots f p) (reads_in b names) ≡ true
reads_pass zones slots f p b [] k h = refl
reads_pass zones slots f p b (c ∷ names) k h =
    let t = row_type zones.columns in
    and_from (is_asked_read zones slots f p (b, c)) (list_all (is_asked_read zones slots f p) (reads_in b names))
    (and_from (list_any (nat_eq b) (kept_blocks zones slots f)) (has_name c (asked_columns t f) || has_name c (asked_columns t p)) k h.0)
    (reads_pass zones slots f p b names k h.1)

block_passes : (zones : Zones) (slots : Slots) (f p : Tree) (b : ℕ) → list_any (nat_eq b) (kept_blocks zones slots f) ≡ true
    → list_all (is_asked_read zones slots f p) (block_asked zones f p b) ≡ true
block_passes zones slots f p b k =
    let t = row_type zones.columns in
    let own = asked_columns t f in
    let other = asked_columns t p in
    let further = further_columns t f p in
    let Asked : Bytes → Type 0 = λ c. (has_name c own || has_name c other) ≡ true in
    let first = all_so (λ (c : Bytes). has_name c own ≡ true) Asked (λ c h. or_left (has_name c own) (has_name c other) h) own (all_here bytes_eq bytes_eq-itself own) in
    let next = all_so (λ (c : Bytes). has_name c other ≡ true) Asked (λ c h. or_right (has_name c own) (has_name c other) h) further
    (all_passing (λ (c : Bytes). has_name c other ≡ true) (λ (c : Bytes). not (has_name c own)) other (all_here bytes_eq bytes_eq-itself other)) in
    list_all-append (is_asked_read zones slots f p) (reads_in b own) (reads_in b further)
    ∙ and_from (list_all (is_asked_read zones slots f p) (reads_in b own)) (list_all (is_asked_read zones slots f p) (reads_in b further))
    (reads_pass zones slots f p b own k first) (reads_pass zones slots f p b further k next)

blocks_pass : (zones : Zones) (slots : Slots) (f p : Tree) (blocks : List ℕ) → AllByRecursion (λ b. list_any (nat_eq b) (kept_blocks zones slots f) ≡ true) blocks
    → list_all (is_asked_read zones slots f p) (flat_map (block_asked zones f p) blocks) ≡ true
blocks_pass zones slots f p [] h = refl
blocks_pass zones slots f p (b ∷ blocks) h =
    let test = is_asked_read zones slots f p in
    let rest = flat_map (block_asked zones f p) blocks in
    list_all-append test (block_asked zones f p b) rest
    ∙ and_from (list_all test (block_asked zones f p b)) (list_all test rest) (block_passes zones slots f p b h.0) (blocks_pass zones slots f p blocks h.1)

pub number_itself : (n : ℕ) → nat_eq n n ≡ true
number_itself n = eq-eqb n n refl

pub reads_are_asked : ReadsAreAsked
reads_are_asked zones slots f p made h =
    among_pass (is_asked_read zones slots f p) made (asked_reads zones slots f p) h
    (blocks_pass zones slots f p (kept_blocks zones slots f) (all_here nat_eq number_itself (kept_blocks zones slots f)))

-- no read of the first list stands in the second
abbrev Apart : List Read → List Read → Type 0
Apart [] ys = Unit {0}
Apart (x ∷ xs) ys = (list_any (same_read x) ys ≡ false) × Apart xs ys

distinct_joined : (xs ys : List Read) → Apart xs ys → distinct_reads xs ≡ true → distinct_reads ys ≡ true → distinct_reads (xs ++ ys) ≡ true
distinct_joined [] ys a h k = k
distinct_joined (x ∷ xs) ys a h k =
    let parts = and_parts (not (list_any (same_read x) xs)) (distinct_reads xs) h in
    let own : list_any (same_read x) (xs ++ ys) ≡ false =
    list_any-append (same_read x) xs ys
    ∙ or_from (list_any (same_read x) xs) (list_any (same_read x) ys) (not-has (list_any (same_read x) xs) parts.0) a.0 in
    and_from (not (list_any (same_read x) (xs ++ ys))) (distinct_reads (xs ++ ys)) (has-not (list_any (same_read x) (xs ++ ys)) own)
    (distinct_joined xs ys a.1 parts.1 k)

-- a column that is not among some is read in no read of these
unread : (b : ℕ) (c : Bytes) (names : List Bytes) → has_name c names ≡ false → list_any (same_read (b, c)) (reads_in b names) ≡ false
unread b c [] h = refl
unread b c (d ∷ names) h =
    let parts = or_parts (bytes_eq c d) (has_name c names) h in
    or_from (same_read (b, c) (b, d)) (list_any (same_read (b, c)) (reads_in b names)) (and_right (nat_eq b b) (bytes_eq c d) parts.0) (unread b c names parts.1)

reads_distinct : (b : ℕ) (names : List Bytes) → distinct_names names ≡ true → distinct_reads (reads_in b names) ≡ true
reads_distinct b [] h = refl
reads_distinct b (c ∷ names) h =
    let parts = and_parts (not (has_name c names)) (distinct_names names) h in
    let fresh = unread b c names (not-has (has_name c names) parts.0) in
    and_from (not (list_any (same_read (b, c)) (reads_in b names))) (distinct_reads (reads_in b names))
    (has-not (list_any (same_read (b, c)) (reads_in b names)) fresh) (reads_distinct b names parts.1)

-- a name that some names have is none of those that they don't
not_further : (c : Bytes) (names others : List Bytes) → has_name c names ≡ true → has_name c (filter (λ d. not (has_name d names)) others) ≡ false
not_further c names [] h = refl
not_further c names (d ∷ others) h = by-test (has_name d names) refl (not_further c names others h)
  where
    here : (b : Bool) → bytes_eq c d ≡ b → has_name d names ≡ false → b ≡ false
    here false e n = refl
    here true e n =
        let same : c ≡ d = bytes_same c d e in
        absurd (both_ways (has_name d names) n (subst (λ (g : Bytes). has_name g names ≡ true) same h))

    by-test : (b : Bool) → has_name d names ≡ b → has_name c (filter (λ g. not (has_name g names)) others) ≡ false
        → has_name c (cond (not b) (d ∷ filter (λ g. not (has_name g names)) others) (filter (λ g. not (has_name g names)) others)) ≡ false
    by-test true e r = r
    by-test false e r = or_from (bytes_eq c d) (has_name c (filter (λ g. not (has_name g names)) others)) (here (bytes_eq c d) refl e) r

further_apart : (b : ℕ) (names others cs : List Bytes) → AllByRecursion (λ c. has_name c names ≡ true) cs
    → Apart (reads_in b cs) (reads_in b (filter (λ d. not (has_name d names)) others))
further_apart b names others [] h = tt
further_apart b names others (c ∷ cs) h = (
  unread b c (filter (λ (d : Bytes). not (has_name d names)) others) (not_further c names others h.0),
  further_apart b names others cs h.1,
)

block_distinct : (zones : Zones) (f p : Tree) (b : ℕ) → distinct_names (field_names zones.columns) ≡ true → distinct_reads (block_asked zones f p b) ≡ true
block_distinct zones f p b h =
    let t = row_type zones.columns in
    let own = asked_columns t f in
    let other = asked_columns t p in
    let distinct_own = distinct-filter (λ (c : Bytes). has_name c (flat_map column_in (asked t f []))) (field_names zones.columns) h in
    let distinct_other = distinct-filter (λ (c : Bytes). has_name c (flat_map column_in (asked t p []))) (field_names zones.columns) h in
    distinct_joined (reads_in b own) (reads_in b (further_columns t f p))
    (further_apart b own other own (all_here bytes_eq bytes_eq-itself own))
    (reads_distinct b own distinct_own)
    (reads_distinct b (further_columns t f p) (distinct-filter (λ (c : Bytes). not (has_name c own)) other distinct_other))

-- the reads of a block are of its number
reads_numbered : (b : ℕ) (names : List Bytes) → AllByRecursion (λ (r : Read). r.0 ≡ b) (reads_in b names)
reads_numbered b [] = tt
reads_numbered b (c ∷ names) = (refl, reads_numbered b names)

block_numbered : (zones : Zones) (f p : Tree) (b : ℕ) → AllByRecursion (λ (r : Read). r.0 ≡ b) (block_asked zones f p b)
block_numbered zones f p b =
    let t = row_type zones.columns in
    all_joined (λ (r : Read). r.0 ≡ b) (reads_in b (asked_columns t f)) (reads_in b (further_columns t f p))
    (reads_numbered b (asked_columns t f)) (reads_numbered b (further_columns t f p))

-- reads of a block are none of later blocks
later_unread : (n : ℕ) (r : Read) (ys : List Read) → r.0 ≡ n → AllByRecursion (λ (y : Read). n < y.0) ys → list_any (same_read r) ys ≡ false
later_unread n r [] e h = refl
later_unread n r (y ∷ ys) e h =
    or_from (same_read r y) (list_any (same_read r) ys)
    (and_left (nat_eq r.0 y.0) (bytes_eq r.1 y.1) (ne_eqb r.0 y.0 (λ same. omega (arith, e, same, h.0))))
    (later_unread n r ys e h.1)

later_apart : (n : ℕ) (xs ys : List Read) → AllByRecursion (λ (x : Read). x.0 ≡ n) xs → AllByRecursion (λ (y : Read). n < y.0) ys → Apart xs ys
later_apart n [] ys h k = tt
later_apart n (x ∷ xs) ys h k = (later_unread n x ys h.0 k, later_apart n xs ys h.1 k)

-- the reads of the blocks that pass, from a number on
abbrev reads_from : (ℕ → Bool) → (ℕ → List Read) → ℕ → List ℕ → List Read
reads_from test g n xs = flat_map g (map (λ b. b.0) (filter (λ b. test b.0) (numbered_from n xs)))

blocks_distinct : (test : ℕ → Bool) (g : ℕ → List Read) → ((b : ℕ) → AllByRecursion (λ (r : Read). r.0 ≡ b) (g b)) → ((b : ℕ) → distinct_reads (g b) ≡ true)
    → (n : ℕ) (xs : List ℕ) → AllByRecursion (λ (r : Read). n ≤ r.0) (reads_from test g n xs) × (distinct_reads (reads_from test g n xs) ≡ true)
blocks_distinct test g numbered once n [] = (tt, refl)
blocks_distinct test g numbered once n (x ∷ xs) = by-test (test n) (blocks_distinct test g numbered once (suc n) xs)
  where
    weaker : AllByRecursion (λ (r : Read). suc n ≤ r.0) (reads_from test g (suc n) xs) → AllByRecursion (λ (r : Read). n ≤ r.0) (reads_from test g (suc n) xs)
    weaker h = all_so (λ (r : Read). suc n ≤ r.0) (λ (r : Read). n ≤ r.0) (λ r k. omega (arith, k)) (reads_from test g (suc n) xs) h

    by-test : (b : Bool) → AllByRecursion (λ (r : Read). suc n ≤ r.0) (reads_from test g (suc n) xs) × (distinct_reads (reads_from test g (suc n) xs) ≡ true)
        → AllByRecursion (λ (r : Read). n ≤ r.0)
        (flat_map g (map (λ (c : ℕ × ℕ). c.0) (cond b ((n, x) ∷ filter (λ c. test c.0) (numbered_from (suc n) xs)) (filter (λ c. test c.0) (numbered_from (suc n) xs)))))
        × (distinct_reads (flat_map g (map (λ (c : ℕ × ℕ). c.0) (cond b ((n, x) ∷ filter (λ c. test c.0) (numbered_from (suc n) xs)) (filter (λ c. test c.0) (numbered_from (suc n) xs)))))
        ≡ true)
    by-test true r = (
      all_joined (λ (q : Read). n ≤ q.0) (g n) (reads_from test g (suc n) xs)
          (all_so (λ (q : Read). q.0 ≡ n) (λ (q : Read). n ≤ q.0) (λ q k. omega (arith, k)) (g n) (numbered n)) (weaker r.0),
      distinct_joined (g n) (reads_from test g (suc n) xs)
          (later_apart n (g n) (reads_from test g (suc n) xs) (numbered n)
          (all_so (λ (q : Read). suc n ≤ q.0) (λ (q : Read). n < q.0) (λ q k. omega (arith, k)) (reads_from test g (suc n) xs) r.0))
          (once n) r.1,
    )
    by-test false r = (weaker r.0, r.1)

pub reads_are_distinct : ReadsAreDistinct
reads_are_distinct zones slots f p made d h =
    among_distinct made (asked_reads zones slots f p) h
    (blocks_distinct (λ n. not (rules_out zones slots n f)) (block_asked zones f p) (block_numbered zones f p)
    (λ b. block_distinct zones f p b d) 0 zones.lengths).1

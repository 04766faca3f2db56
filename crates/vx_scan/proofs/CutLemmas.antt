-- Blocks and their statistics cut into two runs: what is ruled out, and what follows of a scan.
use Rattle.std.proofs.Common.{◌≡◌, refl, ap, sym, ◌∙◌, ℕ, zero, suc, ◌+◌, ◌<◌, ◌≤◌, Bool, true, false, cond, not, ◌&&◌, nat_eq, Option, Some, None, List, [], ◌∷◌, ◌++◌, map, length, take, drop, arith}
use Rattle.std.specs.Prelude.{is_some, option_map}
use Rattle.std.specs.List.{filter, find, flat_map, slice_get}
use Rattle.std.proofs.lemmas.Grind.{flat_map-append}
use Rattle.std.proofs.lemmas.List.{take-append-drop, map-append, length-take-le}
use Rattle.std.proofs.lemmas.List.Elements.{filter-append}
use Rattle.std.proofs.lemmas.List.Folds.{flat_map-map}
use Rattle.vx_dtype.specs.declared.Stat.{Stat}
use Rattle.vx_dtype.specs.declared.Stat.TheVariants.{Min, Max, NullCount}
use Rattle.vx_dtype.specs.declared.CompareOperator.{CompareOperator}
use Rattle.vx_dtype.specs.Types.{Bytes, Ty}
use Rattle.vx_dtype.specs.Values.{Val, Typed, value_of}
use Rattle.vx_expr.specs.declared.Operator.{Operator}
use Rattle.vx_expr.specs.Trees.{Tree, root, literal, get_item, binary, not_of, is_null_of, between, list_contains, dynamic}
use Rattle.vx_expr.specs.Operators.{comparison_of}
use Rattle.vx_semantics.specs.Meaning.{Slots, slot_value}
use Rattle.vx_semantics.specs.Asked.{asked_columns}
use Rattle.vx_semantics.specs.Paths.{path_of}
use Rattle.vx_semantics.specs.Tables.{Table, Zones, ZoneStat, row_type, numbered_from, joined_name}
use Rattle.vx_semantics.specs.Pruning.{is_joined, is_statistic, available, value_in, known_in, known_at, known_bound, is_zero, available_at, bound_available}
use Rattle.vx_semantics.specs.Pruning.{comparison_ruled_out, and_ruled_out, or_ruled_out, range_ruled_out, range_negation_ruled_out, elements_ruled_out, contains_ruled_out}
use Rattle.vx_semantics.specs.Pruning.{slot_bound, needed_bound, dynamic_ruled_out_by, operator_ruled_out, operator_negation_ruled_out, rules_out, rules_out_negation}
use Rattle.vx_semantics.specs.Scans.{Phase, matching_rows, has_rows, block_rows, block_phases, reads_in, further_columns, phase_reads, phases_of, kept_of}
use Rattle.vx_laws_scan.proofs.BlockReads.{reads_append}
use Rattle.vx_scan.specs.Stores.{Read}
use Rattle.vx_scan.specs.Cutting.{first_zones, later_zones, first_blocks, later_blocks, shifted_reads, shifted_phase, ScansOfRuns}
use Rattle.vx_scan.proofs.StepLemmas.{numbered_append, passing}

-- the statistics of a block in some zones are those of a block in others
record KnowsSame (zones other : Zones) (block at : ℕ) : Type 0 where
  known : (path : List Bytes) (stat : Stat) → known_in (available other path stat) at ≡ known_in (available zones path stat) block
  there : (path : List Bytes) (stat : Stat) → is_some (available other path stat) ≡ is_some (available zones path stat)

module _ (zones other : Zones) (slots : Slots) (block at : ℕ) (same : KnowsSame zones other block at) where
  same_known : (stat : Stat) (path : Option (List Bytes)) → known_at other at stat path ≡ known_at zones block stat path
  same_known stat None = refl
  same_known stat (Some path) = same.known path stat

  same_there : (path : Option (List Bytes)) (stat : Stat) → available_at other path stat ≡ available_at zones path stat
  same_there None stat = refl
  same_there (Some path) stat = same.there path stat

  same_bound : (e : Tree) (stat : Stat) → known_bound other at stat e ≡ known_bound zones block stat e
  same_bound (literal s) stat = refl
  same_bound root stat = same_known stat (path_of root)
  same_bound (get_item f e) stat = same_known stat (path_of (get_item f e))
  same_bound _ stat = refl

  same_available : (e : Tree) (stat : Stat) → bound_available other e stat ≡ bound_available zones e stat
  same_available (literal s) stat = refl
  same_available root stat = same_there (path_of root) stat
  same_available (get_item f e) stat = same_there (path_of (get_item f e)) stat
  same_available _ stat = refl

  same_contains : (l e : Tree) → contains_ruled_out other at l e ≡ contains_ruled_out zones block l e
  same_contains (literal s) e = λ i. elements_ruled_out (value_of s) (same_available e Min i && same_available e Max i) (same_bound e Min i) (same_bound e Max i)
  same_contains _ e = refl

  same_dynamic : (e : Tree) (op : CompareOperator) (default : Bool) (slot : Option Val) (stat : Option Stat)
      → dynamic_ruled_out_by other at e op default slot stat ≡ dynamic_ruled_out_by zones block e op default slot stat
  same_dynamic e op default slot None = refl
  same_dynamic e op default (Some v) (Some stat) = λ i. comparison_ruled_out op (λ s. same_bound e s i) (slot_bound v)
  same_dynamic e op default None (Some stat) = λ i. not default && same_available e stat i

  mutual
    unfolding rules_out

    same_ruled_out : (e : Tree) → rules_out other slots at e ≡ rules_out zones slots block e
    same_ruled_out (binary l Operator.And r) = λ i. and_ruled_out (same_ruled_out l i) (same_ruled_out r i)
    same_ruled_out (binary l Operator.Or r) = λ i. or_ruled_out (same_ruled_out l i) (same_ruled_out r i)
    same_ruled_out (binary l Operator.Eq r) = λ i. operator_ruled_out (comparison_of Operator.Eq) (λ s. same_bound l s i) (λ s. same_bound r s i)
    same_ruled_out (binary l Operator.NotEq r) = λ i. operator_ruled_out (comparison_of Operator.NotEq) (λ s. same_bound l s i) (λ s. same_bound r s i)
    same_ruled_out (binary l Operator.Gt r) = λ i. operator_ruled_out (comparison_of Operator.Gt) (λ s. same_bound l s i) (λ s. same_bound r s i)
    same_ruled_out (binary l Operator.Gte r) = λ i. operator_ruled_out (comparison_of Operator.Gte) (λ s. same_bound l s i) (λ s. same_bound r s i)
    same_ruled_out (binary l Operator.Lt r) = λ i. operator_ruled_out (comparison_of Operator.Lt) (λ s. same_bound l s i) (λ s. same_bound r s i)
    same_ruled_out (binary l Operator.Lte r) = λ i. operator_ruled_out (comparison_of Operator.Lte) (λ s. same_bound l s i) (λ s. same_bound r s i)
    same_ruled_out (binary l Operator.Add r) = refl
    same_ruled_out (binary l Operator.Sub r) = refl
    same_ruled_out (between e lower upper options) = λ i. range_ruled_out options (λ s. same_bound e s i) (λ s. same_bound lower s i) (λ s. same_bound upper s i)
    same_ruled_out (is_null_of e) = ap is_zero (same_known NullCount (path_of e))
    same_ruled_out (list_contains l e) = same_contains l e
    same_ruled_out (dynamic e op k t default) = same_dynamic e op default (slot_value slots k) (needed_bound op)
    same_ruled_out (not_of e) = same_negation e
    same_ruled_out _ = refl

    same_negation : (e : Tree) → rules_out_negation other slots at e ≡ rules_out_negation zones slots block e
    same_negation (binary l Operator.And r) = λ i. or_ruled_out (same_negation l i) (same_negation r i)
    same_negation (binary l Operator.Or r) = λ i. and_ruled_out (same_negation l i) (same_negation r i)
    same_negation (binary l Operator.Eq r) = λ i. operator_negation_ruled_out (comparison_of Operator.Eq) (λ s. same_bound l s i) (λ s. same_bound r s i)
    same_negation (binary l Operator.NotEq r) = λ i. operator_negation_ruled_out (comparison_of Operator.NotEq) (λ s. same_bound l s i) (λ s. same_bound r s i)
    same_negation (binary l Operator.Gt r) = λ i. operator_negation_ruled_out (comparison_of Operator.Gt) (λ s. same_bound l s i) (λ s. same_bound r s i)
    same_negation (binary l Operator.Gte r) = λ i. operator_negation_ruled_out (comparison_of Operator.Gte) (λ s. same_bound l s i) (λ s. same_bound r s i)
    same_negation (binary l Operator.Lt r) = λ i. operator_negation_ruled_out (comparison_of Operator.Lt) (λ s. same_bound l s i) (λ s. same_bound r s i)
    same_negation (binary l Operator.Lte r) = λ i. operator_negation_ruled_out (comparison_of Operator.Lte) (λ s. same_bound l s i) (λ s. same_bound r s i)
    same_negation (binary l Operator.Add r) = refl
    same_negation (binary l Operator.Sub r) = refl
    same_negation (between e lower upper options) =
        λ i. range_negation_ruled_out options (λ s. same_bound e s i) (λ s. same_bound lower s i) (λ s. same_bound upper s i)
    same_negation (not_of e) = same_ruled_out e
    same_negation _ = refl

-- statistics of some of the blocks
abbrev cut_stat : (List Typed → List Typed) → ZoneStat → ZoneStat
cut_stat cut z = record { path = z.path; stat = z.stat; values = cut z.values }

joined_cut : (cut : List Typed → List Typed) (name : Bytes) (zs : List ZoneStat) → length (filter (is_joined name) (map (cut_stat cut) zs)) ≡ length (filter (is_joined name) zs)
joined_cut cut name [] = refl
joined_cut cut name (z ∷ zs) = by-test (is_joined name z) (joined_cut cut name zs)
  where
    by-test : (b : Bool) → length (filter (is_joined name) (map (cut_stat cut) zs)) ≡ length (filter (is_joined name) zs)
        → length (cond b (cut_stat cut z ∷ filter (is_joined name) (map (cut_stat cut) zs)) (filter (is_joined name) (map (cut_stat cut) zs)))
        ≡ length (cond b (z ∷ filter (is_joined name) zs) (filter (is_joined name) zs))
    by-test true r = ap suc r
    by-test false r = r

found_cut : (cut : List Typed → List Typed) (path : List Bytes) (stat : Stat) (zs : List ZoneStat)
    → find (is_statistic path stat) (map (cut_stat cut) zs) ≡ option_map (cut_stat cut) (find (is_statistic path stat) zs)
found_cut cut path stat [] = refl
found_cut cut path stat (z ∷ zs) = by-test (is_statistic path stat z) (found_cut cut path stat zs)
  where
    by-test : (b : Bool) → find (is_statistic path stat) (map (cut_stat cut) zs) ≡ option_map (cut_stat cut) (find (is_statistic path stat) zs)
        → cond b (Some (cut_stat cut z)) (find (is_statistic path stat) (map (cut_stat cut) zs)) ≡ option_map (cut_stat cut) (cond b (Some z) (find (is_statistic path stat) zs))
    by-test true r = refl
    by-test false r = r

where_cut : (cut : List Typed → List Typed) (b : Bool) (o : Option ZoneStat) → cond b (option_map (cut_stat cut) o) None ≡ option_map (cut_stat cut) (cond b o None)
where_cut cut true o = refl
where_cut cut false o = refl

known_cut : (cut : List Typed → List Typed) (block at : ℕ) → ((values : List Typed) → slice_get (cut values) at ≡ slice_get values block)
    → (o : Option ZoneStat) → known_in (option_map (cut_stat cut) o) at ≡ known_in o block
known_cut cut block at e None = refl
known_cut cut block at e (Some z) = ap value_in (e z.values)

there_cut : (cut : List Typed → List Typed) (o : Option ZoneStat) → is_some (option_map (cut_stat cut) o) ≡ is_some o
there_cut cut None = refl
there_cut cut (Some z) = refl

-- zones with so cut statistics
abbrev cut_zones : (List Typed → List Typed) → List ℕ → Zones → Zones
cut_zones cut lengths zones = record { columns = zones.columns; lengths = lengths; stats = map (cut_stat cut) zones.stats }

available_cut : (cut : List Typed → List Typed) (lengths : List ℕ) (zones : Zones) (path : List Bytes) (stat : Stat)
    → available (cut_zones cut lengths zones) path stat ≡ option_map (cut_stat cut) (available zones path stat)
available_cut cut lengths zones path stat =
    let name = joined_name path stat in
    let number = joined_cut cut name zones.stats in
    let found = found_cut cut path stat zones.stats in
    (λ i. cond (nat_eq (number i) 1) (found i) None)
    ∙ where_cut cut (nat_eq (length (filter (is_joined name) zones.stats)) 1) (find (is_statistic path stat) zones.stats)

cut_same : (cut : List Typed → List Typed) (lengths : List ℕ) (zones : Zones) (block at : ℕ) → ((values : List Typed) → slice_get (cut values) at ≡ slice_get values block)
    → KnowsSame zones (cut_zones cut lengths zones) block at
cut_same cut lengths zones block at e = record {
  known = λ path stat. ap (λ (o : Option ZoneStat). known_in o at) (available_cut cut lengths zones path stat) ∙ known_cut cut block at e (available zones path stat);
  there = λ path stat. ap (λ (o : Option ZoneStat). is_some o) (available_cut cut lengths zones path stat) ∙ there_cut cut (available zones path stat);
}

-- what stands in the first items, and in the later ones
pub in_first : {X : Type 0} (n i : ℕ) (xs : List X) → i < n → slice_get (take n xs) i ≡ slice_get xs i
in_first zero i xs h = absurd (omega (arith, h))
in_first (suc n) i [] h = refl
in_first (suc n) zero (x ∷ xs) h = refl
in_first (suc n) (suc i) (x ∷ xs) h = in_first n i xs (omega (arith, h))

pub in_later : {X : Type 0} (n i : ℕ) (xs : List X) → slice_get (drop n xs) i ≡ slice_get xs (n + i)
in_later zero i xs = let start : i ≡ 0 + i = omega arith in ap (slice_get xs) start
in_later (suc n) i [] = refl
in_later (suc n) i (x ∷ xs) = let next : suc (n + i) ≡ suc n + i = omega arith in in_later n i xs ∙ ap (slice_get (x ∷ xs)) next

first_ruled_out : (n : ℕ) (zones : Zones) (slots : Slots) (f : Tree) (b : ℕ) → b < n → rules_out (first_zones n zones) slots b f ≡ rules_out zones slots b f
first_ruled_out n zones slots f b h =
    same_ruled_out zones (first_zones n zones) slots b b (cut_same (take n) (take n zones.lengths) zones b b (λ values. in_first n b values h)) f

later_ruled_out : (n : ℕ) (zones : Zones) (slots : Slots) (f : Tree) (b : ℕ) → rules_out (later_zones n zones) slots b f ≡ rules_out zones slots (n + b) f
later_ruled_out n zones slots f b =
    same_ruled_out zones (later_zones n zones) slots (n + b) b (cut_same (drop n) (drop n zones.lengths) zones (n + b) b (λ values. in_later n b values)) f

-- items that pass by their numbers, in two runs
same_passing : {X : Type 0} (test other : ℕ → Bool) (m n : ℕ) (xs : List X) → m + length xs ≤ n → ((b : ℕ) → b < n → test b ≡ other b)
    → filter (λ (b : ℕ × X). test b.0) (numbered_from m xs) ≡ filter (λ (b : ℕ × X). other b.0) (numbered_from m xs)
same_passing test other m n [] h e = refl
same_passing {X} test other m n (x ∷ xs) h e =
    let rest = same_passing test other (suc m) n xs (omega (arith, h)) e in
    let here = e m (omega (arith, h)) in
    let one : ℕ × X = (m, x) in
    λ i. cond (here i) (one ∷ rest i) (rest i)

shifted_passing : {X : Type 0} (test other : ℕ → Bool) (n m : ℕ) (xs : List X) → ((b : ℕ) → test (n + b) ≡ other b)
    → filter (λ (b : ℕ × X). test b.0) (numbered_from (n + m) xs) ≡ map (λ (b : ℕ × X). (n + b.0, b.1)) (filter (λ (b : ℕ × X). other b.0) (numbered_from m xs))
shifted_passing test other n m [] e = refl
shifted_passing {X} test other n m (x ∷ xs) e =
    let next : suc (n + m) ≡ n + suc m = omega arith in
    let rest = ap (λ (k : ℕ). filter (λ (b : ℕ × X). test b.0) (numbered_from k xs)) next ∙ shifted_passing test other n (suc m) xs e in
    let here = e m in
    let one : ℕ × X = (n + m, x) in
    (λ i. cond (here i) (one ∷ rest i) (rest i)) ∙ by-test (other m)
  where
    by-test : (b : Bool)
        → cond {A = List (ℕ × X)} b ((n + m, x) ∷ map (λ (c : ℕ × X). (n + c.0, c.1)) (filter (λ (c : ℕ × X). other c.0) (numbered_from (suc m) xs)))
        (map (λ (c : ℕ × X). (n + c.0, c.1)) (filter (λ (c : ℕ × X). other c.0) (numbered_from (suc m) xs)))
        ≡ map (λ (c : ℕ × X). (n + c.0, c.1)) (cond b ((m, x) ∷ filter (λ (c : ℕ × X). other c.0) (numbered_from (suc m) xs)) (filter (λ (c : ℕ × X). other c.0) (numbered_from (suc m) xs)))
    by-test true = refl
    by-test false = refl

cut_passing : {X : Type 0} (test first later : ℕ → Bool) (n : ℕ) (xs : List X) → n ≤ length xs → ((b : ℕ) → b < n → test b ≡ first b) → ((b : ℕ) → test (n + b) ≡ later b)
    → passing test xs ≡ passing first (take n xs) ++ map (λ (b : ℕ × X). (n + b.0, b.1)) (passing later (drop n xs))
cut_passing {X} test first later n xs h e k =
    let by : ℕ × X → Bool = λ b. test b.0 in
    let front = take n xs in
    let back = drop n xs in
    let long : length front ≡ n = length-take-le n xs h in
    let start : 0 + length front ≡ n + 0 = omega (arith, long) in
    let own = same_passing test first 0 n front (omega (arith, long)) e in
    let rest = ap (λ (m : ℕ). filter by (numbered_from m back)) start ∙ shifted_passing test later n 0 back k in
    ap (λ (ys : List X). passing test ys) (sym (take-append-drop n xs))
    ∙ ap (filter by) (numbered_append 0 front back)
    ∙ filter-append by (numbered_from 0 front) (numbered_from (0 + length front) back)
    ∙ (λ i. own i ++ rest i)

-- the numbers of shifted items
shifted_numbers : {X : Type 0} (n : ℕ) (bs : List (ℕ × X)) → map (λ (b : ℕ × X). b.0) (map (λ (b : ℕ × X). (n + b.0, b.1)) bs) ≡ map (λ b. n + b) (map (λ (b : ℕ × X). b.0) bs)
shifted_numbers n [] = refl
shifted_numbers n (b ∷ bs) = ap (λ (ns : List ℕ). (n + b.0) ∷ ns) (shifted_numbers n bs)

cut_numbers : {X : Type 0} (n : ℕ) (all : List (ℕ × X)) (first later : List (ℕ × X)) → all ≡ first ++ map (λ (b : ℕ × X). (n + b.0, b.1)) later
    → map (λ (b : ℕ × X). b.0) all ≡ map (λ (b : ℕ × X). b.0) first ++ map (λ b. n + b) (map (λ (b : ℕ × X). b.0) later)
cut_numbers {X} n all first later h =
    ap (map (λ (b : ℕ × X). b.0)) h ∙ map-append (λ (b : ℕ × X). b.0) first (map (λ (b : ℕ × X). (n + b.0, b.1)) later)
    ∙ ap (λ (ns : List ℕ). map (λ (b : ℕ × X). b.0) first ++ ns) (shifted_numbers n later)

-- the phases of a shifted block
shifted_in : (n b : ℕ) (names : List Bytes) → reads_in (n + b) names ≡ shifted_reads n (reads_in b names)
shifted_in n b [] = refl
shifted_in n b (c ∷ names) = ap (λ (rs : List Read). (n + b, c) ∷ rs) (shifted_in n b names)

shifted_block : (n : ℕ) (t : Ty) (slots : Slots) (f p : Tree) (b : ℕ × List Val) → block_phases t slots f p (n + b.0, b.1) ≡ map (shifted_phase n) (block_phases t slots f p b)
shifted_block n t slots f p b = by-test (has_rows (matching_rows t slots f b.1))
  where
    by-test : (x : Bool)
        → (record { expression = f; reads = reads_in (n + b.0) (asked_columns t f); rows = b.1 }
        ∷ cond x (record { expression = p; reads = reads_in (n + b.0) (further_columns t f p); rows = matching_rows t slots f b.1 } ∷ []) [])
        ≡ map (shifted_phase n) (record { expression = f; reads = reads_in b.0 (asked_columns t f); rows = b.1 }
        ∷ cond x (record { expression = p; reads = reads_in b.0 (further_columns t f p); rows = matching_rows t slots f b.1 } ∷ []) [])
    by-test true =
        let own = shifted_in n b.0 (asked_columns t f) in
        let further = shifted_in n b.0 (further_columns t f p) in
        λ i. record { expression = f; reads = own i; rows = b.1 } ∷ (record { expression = p; reads = further i; rows = matching_rows t slots f b.1 } ∷ [])
    by-test false = let own = shifted_in n b.0 (asked_columns t f) in λ i. record { expression = f; reads = own i; rows = b.1 } ∷ []

shifted_phases : (n : ℕ) (t : Ty) (slots : Slots) (f p : Tree) (bs : List (ℕ × List Val))
    → flat_map (λ b. block_phases t slots f p (n + b.0, b.1)) bs ≡ map (shifted_phase n) (flat_map (block_phases t slots f p) bs)
shifted_phases n t slots f p [] = refl
shifted_phases n t slots f p (b ∷ bs) =
    let own = shifted_block n t slots f p b in
    let rest = shifted_phases n t slots f p bs in
    (λ i. own i ++ rest i) ∙ sym (map-append (shifted_phase n) (block_phases t slots f p b) (flat_map (block_phases t slots f p) bs))

shifted_phase_reads : (n : ℕ) (phases : List Phase) → phase_reads (map (shifted_phase n) phases) ≡ shifted_reads n (phase_reads phases)
shifted_phase_reads n [] = refl
shifted_phase_reads n (phase ∷ phases) =
    ap (λ (rs : List Read). shifted_reads n phase.reads ++ rs) (shifted_phase_reads n phases)
    ∙ sym (map-append (λ (r : Read). (n + r.0, r.1)) phase.reads (phase_reads phases))

-- the kept blocks of a table in two runs
kept_cut : (table : Table) (zones : Zones) (slots : Slots) (f : Tree) (n : ℕ) → n ≤ length table.blocks
    → kept_of table zones slots f
    ≡ kept_of (first_blocks n table) (first_zones n zones) slots f ++ map (λ b. (n + b.0, b.1)) (kept_of (later_blocks n table) (later_zones n zones) slots f)
kept_cut table zones slots f n h =
    cut_passing (λ b. not (rules_out zones slots b f)) (λ b. not (rules_out (first_zones n zones) slots b f)) (λ b. not (rules_out (later_zones n zones) slots b f))
    n table.blocks h
    (λ b l. ap not (sym (first_ruled_out n zones slots f b l)))
    (λ b. ap not (sym (later_ruled_out n zones slots f b)))

phases_cut : (table : Table) (zones : Zones) (slots : Slots) (f p : Tree) (n : ℕ) → n ≤ length table.blocks
    → phases_of table zones slots f p
    ≡ phases_of (first_blocks n table) (first_zones n zones) slots f p
    ++ map (shifted_phase n) (phases_of (later_blocks n table) (later_zones n zones) slots f p)
phases_cut table zones slots f p n h =
    let t = row_type table.columns in
    let g : ℕ × List Val → List Phase = block_phases t slots f p in
    let first = kept_of (first_blocks n table) (first_zones n zones) slots f in
    let later = kept_of (later_blocks n table) (later_zones n zones) slots f in
    let shift : ℕ × List Val → ℕ × List Val = λ b. (n + b.0, b.1) in
    ap (flat_map g) (kept_cut table zones slots f n h)
    ∙ flat_map-append g first (map shift later)
    ∙ ap (λ (ps : List Phase). flat_map g first ++ ps) (flat_map-map g shift later ∙ shifted_phases n t slots f p later)

pub scans_of_runs : ScansOfRuns
scans_of_runs table zones slots f p n long h =
    let t = row_type table.columns in
    let l : n ≤ length table.blocks = omega (arith, long, h) in
    let rows : List Val → List Val = block_rows t slots f p in
    let numbered : ℕ × List Val → List Val = λ b. block_rows t slots f p b.1 in
    let shift : ℕ × List Val → ℕ × List Val = λ b. (n + b.0, b.1) in
    let first = kept_of (first_blocks n table) (first_zones n zones) slots f in
    let later = kept_of (later_blocks n table) (later_zones n zones) slots f in
    let phases = phases_cut table zones slots f p n l in
    record {
      rows = ap (flat_map rows) (sym (take-append-drop n table.blocks)) ∙ flat_map-append rows (take n table.blocks) (drop n table.blocks);
      kept_rows = ap (flat_map numbered) (kept_cut table zones slots f n l)
          ∙ flat_map-append numbered first (map shift later)
          ∙ ap (λ (vs : List Val). flat_map numbered first ++ vs) (flat_map-map numbered shift later);
      kept = cut_numbers n _ _ _
          (cut_passing (λ b. not (rules_out zones slots b f)) (λ b. not (rules_out (first_zones n zones) slots b f)) (λ b. not (rules_out (later_zones n zones) slots b f))
          n zones.lengths h
          (λ b k. ap not (sym (first_ruled_out n zones slots f b k))) (λ b. ap not (sym (later_ruled_out n zones slots f b))));
      skipped = cut_numbers n _ _ _
          (cut_passing (λ b. rules_out zones slots b f) (λ b. rules_out (first_zones n zones) slots b f) (λ b. rules_out (later_zones n zones) slots b f)
          n zones.lengths h
          (λ b k. sym (first_ruled_out n zones slots f b k)) (λ b. sym (later_ruled_out n zones slots f b)));
      phases = phases;
      reads = ap phase_reads phases
          ∙ reads_append (phases_of (first_blocks n table) (first_zones n zones) slots f p) (map (shifted_phase n) (phases_of (later_blocks n table) (later_zones n zones) slots f p))
          ∙ ap (λ (rs : List Read). phase_reads (phases_of (first_blocks n table) (first_zones n zones) slots f p) ++ rs)
          (shifted_phase_reads n (phases_of (later_blocks n table) (later_zones n zones) slots f p));
    }

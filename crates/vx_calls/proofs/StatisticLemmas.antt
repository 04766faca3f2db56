-- The statistics that a table can have, and those that a filter needs.
use Rattle.std.proofs.Common.{◌≡◌, ◌∙◌, refl, ap, sym, subst, Bool, true, false, cond, not, ◌&&◌, ◌||◌, List, [], ◌∷◌, map, fold, Option, Some, None, Ok}
use Rattle.std.specs.Prelude.{is_some}
use Rattle.std.specs.List.{filter, list_all, list_any}
use Rattle.std.specs.Option.{option_and_then}
use Rattle.std.proofs.lemmas.Bool.{and_parts, and_from}
use Rattle.vx_dtype.specs.Paths.{with_path}
use Rattle.vx_dtype.specs.Types.{Bytes, Ty, Fields}
use Rattle.vx_dtype.specs.TypeRules.{no_name_twice}
use Rattle.vx_dtype.proofs.DistinctLemmas.{not_found}
use Rattle.vx_expr.specs.Trees.{Tree}
use Rattle.vx_semantics.specs.Pruning.{is_statistic}
use Rattle.vx_semantics.specs.Tables.{Table, Zones, ZoneStat, row_type, same_statistic, statistic_path}
use Rattle.vx_passes.specs.Falsifying.{Question}
use Rattle.vx_passes.specs.PruningTables.{Pruning, pruning_over}
use Rattle.vx_zones.specs.Zoning.{are_shallow, broken_rule, distinct_statistics, leaf_type, statistic_type}
use Rattle.vx_zones.specs.ZoneViews.{statistic_paths}
use Rattle.vx_zones.specs.declared.errors.ZoneError.{ZoneError}
use Rattle.vx_tables.specs.Blocks.{table_of_blocks}
use Rattle.vx_laws_pruning.proofs.Accepted.{follows_rules}
use Rattle.vx_laws_stats.specs.BuiltLaws.{path_and_stat}
use Rattle.vx_laws_stats.specs.BuiltStatistics.{built_stats, built_zones}
use Rattle.vx_laws_stats.proofs.BuiltZones.{break_no_rule}
use Rattle.vx_laws_stats.proofs.PathFacts.{follow_paths}
use Rattle.vx_column.specs.Columns.{Column}
use Rattle.vx_stats.specs.Building.{AnswersBuilt}
use Rattle.vx_calls.specs.Statistics.{needed_among, needed_statistics, paths_of, possible_statistics}

-- ---- rules of zones

cond-none : (b : Bool) (e : ZoneError) (o : Option ZoneError) → cond (not b) (Some e) o ≡ None → (b ≡ true) × (o ≡ None)
cond-none true e o h = (refl, h)
cond-none false e o h = let no : ⊥ = cc in absurd no

pub passed : {X : Type 0} (a : Bool) (x y : X) → a ≡ true → cond (not a) x y ≡ y
passed true x y h = refl
passed false x y h = let no : ⊥ = cc in absurd no

-- columns of zones have no name twice, and no type that is too deep
pub columns_follow : (zones : Zones) → broken_rule zones ≡ None → (no_name_twice (row_type zones.columns) ≡ true) × (are_shallow zones.columns ≡ true)
unfolding broken_rule
columns_follow zones h =
    let names = cond-none (no_name_twice (row_type zones.columns)) _ _ h in
    (names.0, (cond-none (are_shallow zones.columns) _ _ names.1).0)

abbrev empty_zones : Fields → Zones
empty_zones columns = record { columns = columns; lengths = []; stats = [] }

-- such columns alone are zones
pub empty_follows : (zones : Zones) → broken_rule zones ≡ None → broken_rule (empty_zones zones.columns) ≡ None
unfolding broken_rule
empty_follows zones h =
    let columns = columns_follow zones h in
    passed (no_name_twice (row_type zones.columns)) _ _ columns.0 ∙ passed (are_shallow zones.columns) _ _ columns.1

-- ---- the statistics that a table can have

abbrev empty_table : Fields → Table
empty_table columns = record { columns = columns; blocks = [] }

built_are_possible : (table : Table) → map path_and_stat (built_stats table) ≡ possible_statistics table.columns
built_are_possible table = follow_paths table

-- the paths that stand for statistics are those of what they are of
folded_paths : (zs : List ZoneStat) (paths : List (List Bytes))
    → fold (λ ps (z : ZoneStat). with_path (statistic_path z.path z.stat) ps) paths zs
    ≡ fold (λ ps (q : Question). with_path (statistic_path q.0 q.1) ps) paths (map path_and_stat zs)
folded_paths [] paths = refl
folded_paths (z ∷ zs) paths = folded_paths zs (with_path (statistic_path z.path z.stat) paths)

pub paths_stand : (zs : List ZoneStat) → statistic_paths zs ≡ paths_of (map path_and_stat zs)
paths_stand zs = folded_paths zs []

-- ---- those that are needed

-- what holds of all statistics that a table can have holds of those that are needed
kept_all : (holds keeps : Question → Bool) (qs : List Question) → list_all holds qs ≡ true → list_all holds (filter keeps qs) ≡ true
kept_all holds keeps [] h = refl
kept_all holds keeps (q ∷ qs) h =
    let parts = and_parts (holds q) (list_all holds qs) h in
    by-test (keeps q) parts.0 (kept_all holds keeps qs parts.1)
  where
    by-test : (b : Bool) → holds q ≡ true → list_all holds (filter keeps qs) ≡ true → list_all holds (cond b (q ∷ filter keeps qs) (filter keeps qs)) ≡ true
    by-test true k r = and_from (holds q) (list_all holds (filter keeps qs)) k r
    by-test false k r = r

needed_all : (holds : Question → Bool) (qs : List Question) (pruning : Option Pruning) → list_all holds qs ≡ true
    → list_all holds (needed_among qs pruning) ≡ true
needed_all holds qs None h = refl
needed_all holds qs (Some p) h = kept_all holds (λ q. list_any (same_statistic q) p.required) qs h

-- no two are of one path and one kind
abbrev pub distinct_questions : List Question → Bool
distinct_questions [] = true
distinct_questions (q ∷ qs) = not (list_any (same_statistic q) qs) && distinct_questions qs

none_kept : (q : Question) (keeps : Question → Bool) (qs : List Question) → list_any (same_statistic q) qs ≡ false
    → list_any (same_statistic q) (filter keeps qs) ≡ false
none_kept q keeps [] h = refl
none_kept q keeps (r ∷ qs) h = by-test (keeps r) (same_statistic q r) h (none_kept q keeps qs) refl
  where
    by-test : (b s : Bool) → (s || list_any (same_statistic q) qs) ≡ false
        → (list_any (same_statistic q) qs ≡ false → list_any (same_statistic q) (filter keeps qs) ≡ false)
        → same_statistic q r ≡ s → list_any (same_statistic q) (cond b (r ∷ filter keeps qs) (filter keeps qs)) ≡ false
    by-test true true k f e = let no : ⊥ = cc in absurd no
    by-test true false k f e = ap (λ (s : Bool). s || list_any (same_statistic q) (filter keeps qs)) e ∙ f k
    by-test false true k f e = let no : ⊥ = cc in absurd no
    by-test false false k f e = f k

kept_distinct : (keeps : Question → Bool) (qs : List Question) → distinct_questions qs ≡ true → distinct_questions (filter keeps qs) ≡ true
kept_distinct keeps [] h = refl
kept_distinct keeps (q ∷ qs) h =
    let parts = and_parts (not (list_any (same_statistic q) qs)) (distinct_questions qs) h in
    by-test (keeps q) (none_kept q keeps qs (not_found (list_any (same_statistic q) qs) parts.0)) (kept_distinct keeps qs parts.1)
  where
    by-test : (b : Bool) → list_any (same_statistic q) (filter keeps qs) ≡ false → distinct_questions (filter keeps qs) ≡ true
        → distinct_questions (cond b (q ∷ filter keeps qs) (filter keeps qs)) ≡ true
    by-test true k r = and_from (not (list_any (same_statistic q) (filter keeps qs))) (distinct_questions (filter keeps qs)) (ap not k) r
    by-test false k r = r

needed_distinct : (qs : List Question) (pruning : Option Pruning) → distinct_questions qs ≡ true → distinct_questions (needed_among qs pruning) ≡ true
needed_distinct qs None h = refl
needed_distinct qs (Some p) h = kept_distinct (λ q. list_any (same_statistic q) p.required) qs h

-- statistics are distinct where what they are of is
any_seen : (z : ZoneStat) (zs : List ZoneStat) → list_any (is_statistic z.path z.stat) zs ≡ list_any (same_statistic (path_and_stat z)) (map path_and_stat zs)
any_seen z [] = refl
any_seen z (y ∷ ys) = ap (λ (b : Bool). same_statistic (path_and_stat z) (path_and_stat y) || b) (any_seen z ys)

pub distinct_seen : (zs : List ZoneStat) → distinct_statistics zs ≡ distinct_questions (map path_and_stat zs)
distinct_seen [] = refl
distinct_seen (z ∷ zs) = λ i. not (any_seen z zs i) && distinct_seen zs i

-- what holds of what each is of
pub all_seen : (holds : Question → Bool) (zs : List ZoneStat) → list_all (λ z. holds (path_and_stat z)) zs ≡ list_all holds (map path_and_stat zs)
all_seen holds [] = refl
all_seen holds (z ∷ zs) = ap (λ (b : Bool). holds (path_and_stat z) && b) (all_seen holds zs)

-- the type of a statistic of a table, where its path leads to a plain field
abbrev pub question_type : Fields → Question → Option Ty
question_type columns q = option_and_then (statistic_type q.1) (leaf_type columns q.0)

abbrev pub is_possible : Fields → Question → Bool
is_possible columns q = is_some (question_type columns q)

pub needed_are_possible : (columns : Fields) (tree : Tree) → no_name_twice (row_type columns) ≡ true → are_shallow columns ≡ true
    → list_all (is_possible columns) (needed_statistics columns tree) ≡ true
needed_are_possible columns tree h k =
    let table = empty_table columns in
    let rules = follows_rules (built_zones table) (break_no_rule table h k) in
    let built : list_all (is_possible columns) (map path_and_stat (built_stats table)) ≡ true =
    sym (all_seen (is_possible columns) (built_stats table)) ∙ rules.leads in
    needed_all (is_possible columns) (possible_statistics columns) (pruning_over (paths_of (possible_statistics columns)) tree)
    (subst (λ (qs : List Question). list_all (is_possible columns) qs ≡ true) (built_are_possible table) built)

pub needed_are_distinct : (columns : Fields) (tree : Tree) → no_name_twice (row_type columns) ≡ true → are_shallow columns ≡ true
    → distinct_questions (needed_statistics columns tree) ≡ true
needed_are_distinct columns tree h k =
    let table = empty_table columns in
    let rules = follows_rules (built_zones table) (break_no_rule table h k) in
    let built : distinct_questions (map path_and_stat (built_stats table)) ≡ true = sym (distinct_seen (built_stats table)) ∙ rules.apart in
    needed_distinct (possible_statistics columns) (pruning_over (paths_of (possible_statistics columns)) tree)
    (subst (λ (qs : List Question). distinct_questions qs ≡ true) (built_are_possible table) built)

-- the statistics that are built of a table without blocks are those that it can have
pub built_so : (zones built : Zones) (blocks : List (List Column)) (columns : Fields) → AnswersBuilt zones blocks (Ok built) → zones.columns ≡ columns
    → map path_and_stat built.stats ≡ possible_statistics columns
built_so zones built blocks columns h e =
    ap (λ (z : Zones). map path_and_stat z.stats) h.0 ∙ built_are_possible (table_of_blocks zones blocks) ∙ ap possible_statistics e

-- The questions that a catalog answers, each once.
use Rattle.std.proofs.Common.{◌≡◌, Bool, true, false, ◌&&◌, ◌||◌, not, cond, List, [], ◌∷◌, ◌++◌, Some, None, refl, sym, ap, subst, ◌∙◌, append-nil}
use Rattle.std.specs.Prelude.{is_some}
use Rattle.std.specs.List.{list_any, filter}
use Rattle.std.specs.HashMap.{HashMap}
use Rattle.std.specs.HashSet.{HashSet}
use Rattle.std.proofs.lemmas.List.Folds.{list_any-append}
use Rattle.std.proofs.lemmas.List.Elements.{filter-append}
use Rattle.vx_dtype.specs.declared.Stat.{Stat}
use Rattle.vx_dtype.specs.declared.Stat.TheVariants.{Min, Max, NaNCount, NullCount}
use Rattle.vx_dtype.specs.Types.{Bytes}
use Rattle.vx_dtype.specs.Equal.{names_eq}
use Rattle.vx_dtype.specs.Paths.{has_path}
use Rattle.vx_dtype.specs.EqualLaws.{names_decides, names_eq_equiv}
use Rattle.vx_semantics.specs.Tables.{same_stat, statistic_path, same_statistic}
use Rattle.vx_dtype.specs.contracts.statistics.StatPartialEq.TheImpl as stat_eq
use Rattle.vx_passes.specs.Catalogs.{Catalog, every_statistic, is_alone_among, statistic_column, statistics_among}
use Rattle.vx_passes.specs.Falsifying.{Question}
use Rattle.vx_passes.specs.PruningTables.{answered_once}
use Rattle.vx_prune.specs.declared.relations.Relation.{Relation}
use Rattle.vx_prune.specs.Relations.{has_pair}
use Rattle.vx_prune.specs.Required.{Requires}

same_stat_is : (a b : Stat) → same_stat a b ≡ true → a ≡ b
same_stat_is Min Min h = refl
same_stat_is Max Max h = refl
same_stat_is NaNCount NaNCount h = refl
same_stat_is NullCount NullCount h = refl
same_stat_is _ _ h = absurd cc

first_true : (a b : Bool) → (a && b) ≡ true → a ≡ true
first_true true b h = refl
first_true false b h = h

second_true : (a b : Bool) → (a && b) ≡ true → b ≡ true
second_true true b h = h
second_true false b h = absurd cc

-- questions that are the same are equal
same_statistic_is : (p q : Question) → same_statistic p q ≡ true → p ≡ q
same_statistic_is p q h =
    let paths = (names_decides p.0 q.0).0 (first_true (names_eq p.0 q.0) (same_stat p.1 q.1) h) in
    let stats = same_stat_is p.1 q.1 (second_true (names_eq p.0 q.0) (same_stat p.1 q.1) h) in
    λ i. (paths i, stats i)

-- whether a question is among these
abbrev pub is_among : Question → List Question → Bool
is_among q qs = list_any (same_statistic q) qs

-- whether a catalog answers a question
abbrev pub has_answer : Catalog → Question → Bool
has_answer catalog q = is_some (catalog q.0 q.1)

or_false : (b : Bool) → (b || false) ≡ b
or_false true = refl
or_false false = refl

seen_by : (q x : Question) (seen : List Question) → is_among x seen ≡ true → (b : Bool) → same_statistic q x ≡ b → (is_among q seen || same_statistic q x) ≡ is_among q seen
seen_by q x seen h true e = let there : is_among q seen ≡ true = ap (λ p. is_among p seen) (same_statistic_is q x e) ∙ h in ap (λ b. b || same_statistic q x) there ∙ sym there
seen_by q x seen h false e = ap (λ b. is_among q seen || b) e ∙ or_false (is_among q seen)

-- a question that was seen is not seen anew
seen_again : (q x : Question) (seen : List Question) → is_among x seen ≡ true → (is_among q seen || same_statistic q x) ≡ is_among q seen
seen_again q x seen h = seen_by q x seen h (same_statistic q x) refl

or_assoc : (a b c : Bool) → (a || (b || c)) ≡ ((a || b) || c)
or_assoc true b c = refl
or_assoc false b c = refl

or_swap : (a b c : Bool) → ((a || b) || c) ≡ ((b || a) || c)
or_swap true true c = refl
or_swap true false c = refl
or_swap false true c = refl
or_swap false false c = refl

module _ (catalog : Catalog) (q : Question) where
  -- a question that was seen or stands among the answered ones, each once, was seen or stands among all answered ones
  abbrev SeenOr : List Question → List Question → Type 0
  SeenOr seen asked = (is_among q seen || is_among q (answered_once catalog seen asked)) ≡ (is_among q seen || is_among q (filter (has_answer catalog) asked))

  module _ (x : Question) (seen xs : List Question) (same : SeenOr seen xs) (more : SeenOr (x ∷ seen) xs) where
    abbrev all : List Question
    all = filter (has_answer catalog) xs

    by_answer : (b m : Bool) → is_among x seen ≡ m
        → (is_among q seen || is_among q (cond (b && not m) (x ∷ answered_once catalog (x ∷ seen) xs) (answered_once catalog seen xs)))
        ≡ (is_among q seen || is_among q (cond b (x ∷ all) all))
    by_answer true true m =
        same ∙ ap (λ c. c || is_among q all) (sym (seen_again q x seen m)) ∙ sym (or_assoc (is_among q seen) (same_statistic q x) (is_among q all))
    by_answer true false m =
        let later = is_among q (answered_once catalog (x ∷ seen) xs) in
        or_assoc (is_among q seen) (same_statistic q x) later ∙ or_swap (is_among q seen) (same_statistic q x) later ∙ more
        ∙ or_swap (same_statistic q x) (is_among q seen) (is_among q all) ∙ sym (or_assoc (is_among q seen) (same_statistic q x) (is_among q all))
    by_answer false m e = same

  once : (seen asked : List Question) → SeenOr seen asked
  once seen [] = refl
  once seen (x ∷ xs) = by_answer x seen xs (once seen xs) (once (x ∷ seen) xs) (has_answer catalog x) (is_among x seen) refl

  pub among_once : (asked : List Question) → is_among q (answered_once catalog [] asked) ≡ is_among q (filter (has_answer catalog) asked)
  among_once asked = once [] asked

-- ---- the statistics that a relation holds, as a loop collects them

kinds : (a b : Stat) → stat_eq.ghosts.eq a b ≡ same_stat a b
kinds Min Min = refl
kinds Min Max = refl
kinds Min NaNCount = refl
kinds Min NullCount = refl
kinds Max Min = refl
kinds Max Max = refl
kinds Max NaNCount = refl
kinds Max NullCount = refl
kinds NaNCount Min = refl
kinds NaNCount Max = refl
kinds NaNCount NaNCount = refl
kinds NaNCount NullCount = refl
kinds NullCount Min = refl
kinds NullCount Max = refl
kinds NullCount NaNCount = refl
kinds NullCount NullCount = refl

flipped : (a b : Stat) → same_stat a b ≡ same_stat b a
flipped Min Min = refl
flipped Min Max = refl
flipped Min NaNCount = refl
flipped Min NullCount = refl
flipped Max Min = refl
flipped Max Max = refl
flipped Max NaNCount = refl
flipped Max NullCount = refl
flipped NaNCount Min = refl
flipped NaNCount Max = refl
flipped NaNCount NaNCount = refl
flipped NaNCount NullCount = refl
flipped NullCount Min = refl
flipped NullCount Max = refl
flipped NullCount NaNCount = refl
flipped NullCount NullCount = refl

behind : (a b : Bool) → (a || b) ≡ (b || (a || false))
behind true true = refl
behind true false = refl
behind false true = refl
behind false false = refl

-- both equalities of statistics tell the same
pub same_kinds : stat_eq.ghosts.eq ≡ same_stat
same_kinds = λ i a b. kinds a b i

module _ {S T : Type 0} where
  -- no statistics are required at first
  pub none_required : (m : HashMap (List Bytes) (HashSet Stat S) T) → ((k : List Bytes) (v : Stat) → has_pair names_eq stat_eq.ghosts.eq m k v ≡ false)
      → (q : Question) → has_pair names_eq same_stat m q.0 q.1 ≡ false
  none_required m h q = subst (λ same. has_pair names_eq same m q.0 q.1 ≡ false) same_kinds (h q.0 q.1)

  -- one more is required
  pub one_more_required : (old new : HashMap (List Bytes) (HashSet Stat S) T) (path : List Bytes) (stat : Stat) (qs : List Question)
      → ((k : List Bytes) (v : Stat) → has_pair names_eq stat_eq.ghosts.eq new k v ≡ (names_eq path k && stat_eq.ghosts.eq stat v || has_pair names_eq stat_eq.ghosts.eq old k v))
      → ((q : Question) → has_pair names_eq same_stat old q.0 q.1 ≡ is_among q qs)
      → (q : Question) → has_pair names_eq same_stat new q.0 q.1 ≡ is_among q (qs ++ (path, stat) ∷ [])
  one_more_required old new path stat qs put was q =
      let here : (names_eq path q.0 && same_stat stat q.1) ≡ same_statistic q (path, stat) = λ i. names_eq_equiv.symm path q.0 i && flipped stat q.1 i in
      subst (λ same. has_pair names_eq same new q.0 q.1 ≡ (names_eq path q.0 && same stat q.1 || has_pair names_eq same old q.0 q.1)) same_kinds (put q.0 q.1)
      ∙ (λ i. here i || was q i) ∙ behind (same_statistic q (path, stat)) (is_among q qs) ∙ sym (list_any-append (same_statistic q) qs ((path, stat) ∷ []))

-- a catalog over a set of paths answers just what is available
pub answers_available : (members : List (List Bytes)) (path : List Bytes) (stat : Stat) (b : Bool) → b ≡ is_alone_among members (statistic_path path stat)
    → has_answer (statistics_among members) (path, stat) ≡ b
answers_available members path stat true e = ap (λ c. is_some (cond c (Some (statistic_column path stat)) None)) (sym e)
answers_available members path stat false e = ap (λ c. is_some (cond c (Some (statistic_column path stat)) None)) (sym e)

-- an answered question behind answered ones, and one without an answer
pub answered_more : (catalog : Catalog) (qs : List Question) (q : Question) → has_answer catalog q ≡ true
    → filter (has_answer catalog) (qs ++ q ∷ []) ≡ filter (has_answer catalog) qs ++ q ∷ []
answered_more catalog qs q h = filter-append (has_answer catalog) qs (q ∷ []) ∙ ap (λ b. filter (has_answer catalog) qs ++ cond b (q ∷ []) []) h

pub unanswered_more : (catalog : Catalog) (qs : List Question) (q : Question) → has_answer catalog q ≡ false
    → filter (has_answer catalog) (qs ++ q ∷ []) ≡ filter (has_answer catalog) qs
unanswered_more catalog qs q h =
    filter-append (has_answer catalog) qs (q ∷ []) ∙ ap (λ b. filter (has_answer catalog) qs ++ cond b (q ∷ []) []) h ∙ append-nil (filter (has_answer catalog) qs)

-- the catalog of every statistic answers each question
pub all_answered : (qs : List Question) → filter (has_answer every_statistic) qs ≡ qs
all_answered [] = refl
all_answered (q ∷ qs) = ap (λ rest. q ∷ rest) (all_answered qs)

-- a path is among others in whichever order two paths are compared
pub has_path-flipped : (path : List Bytes) (members : List (List Bytes)) → has_path path members ≡ list_any (names_eq path) members
has_path-flipped path members = ap (λ test. list_any test members) (λ i q. names_eq_equiv.symm q path i)

-- what is required of the questions is what is required of the answered ones, each once
pub requires_every : (asked : List Question) (required : Relation (List Bytes) Stat) → Requires asked required → Requires (answered_once every_statistic [] asked) required
requires_every asked required h q = h q ∙ ap (is_among q) (sym (all_answered asked)) ∙ sym (among_once every_statistic q asked)

pub requires_available : (members : List (List Bytes)) (asked kept : List Question) → kept ≡ filter (λ q. is_alone_among members (statistic_path q.0 q.1)) asked
    → (required : Relation (List Bytes) Stat) → Requires kept required → Requires (answered_once (statistics_among members) [] asked) required
requires_available members asked kept is required h q =
    let tests : has_answer (statistics_among members) ≡ (λ p. is_alone_among members (statistic_path p.0 p.1)) =
    λ i p. answers_available members p.0 p.1 (is_alone_among members (statistic_path p.0 p.1)) refl i in
    h q ∙ ap (is_among q) (is ∙ sym (ap (λ test. filter test asked) tests)) ∙ sym (among_once (statistics_among members) q asked)

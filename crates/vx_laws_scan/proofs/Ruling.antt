-- A filter means true at no row of a block that honest statistics let it rule out.
use Rattle.std.proofs.Common.{◌≡◌, ℕ, refl, ap, sym, ◌∙◌, Bool, true, false, not, ◌&&◌, Option, Some, None, List, [], ◌∷◌, inl, inr, ◌⊎◌, ⊎_elim}
use Rattle.std.specs.Prelude.{slice_get}
use Rattle.std.specs.List.{AllByRecursion}
use Rattle.std.proofs.lemmas.Bool.{or_cases, and_parts, false_from_ne_true}
use Rattle.std.proofs.lemmas.List.Elements.{All-from_recursion}
use Rattle.vx_dtype.specs.declared.CompareOperator.{CompareOperator}
use Rattle.vx_dtype.specs.declared.CompareOperator.TheVariants.{Eq, NotEq, Gt, Gte, Lt, Lte}
use Rattle.vx_dtype.specs.declared.Stat.{Stat}
use Rattle.vx_dtype.specs.declared.Stat.TheVariants.{Min, Max, NullCount}
use Rattle.vx_dtype.specs.declared.BetweenOptions.{BetweenOptions}
use Rattle.vx_dtype.specs.Types.{Bytes, Ty}
use Rattle.vx_dtype.specs.Values.{Val, null_val, bool_val, list_val, fault, no_vals, val, value_of}
use Rattle.vx_dtype.specs.Logic.{Tri, holds, fails, unknown, broken, tri, truth, and_tri, or_tri, not_tri, and3, or3, not3, is_null3, is_true_val, is_null_val}
use Rattle.vx_dtype.specs.Order.{compare3, between3, bound_operator}
use Rattle.vx_dtype.specs.Lists.{has_element, contains3}
use Rattle.vx_expr.specs.declared.Operator.{Operator}
use Rattle.vx_expr.specs.Trees.{Tree, literal, binary, not_of, is_null_of, between, list_contains, dynamic}
use Rattle.vx_expr.specs.Operators.{inverse_comparison}
use Rattle.vx_semantics.specs.Meaning.{Slots, slot_value, default_answer, dynamic3, mean}
use Rattle.vx_semantics.specs.Tables.{Table, Zones}
use Rattle.vx_semantics.specs.Honest.{IsHonest}
use Rattle.vx_semantics.specs.Paths.{path_value, path_of}
use Rattle.vx_semantics.specs.Pruning.{known_at, known_bound, comparison_ruled_out, range_ruled_out, range_negation_ruled_out, is_zero, all_outside, bound_available, elements_ruled_out, contains_ruled_out, slot_bound, needed_bound, dynamic_ruled_out_by, rules_out, rules_out_negation}
use Rattle.vx_laws.proofs.Kleene.{tri-truth}
use Rattle.vx_laws.proofs.Comparing.{not3-compare3}
use Rattle.vx_laws_scan.specs.Pruned.{RuledOutIsNeverTrue}
use Rattle.vx_laws_scan.proofs.Bounds.{IsWithin, itself-within, ruled_out_apart, outside-apart}
use Rattle.vx_laws.proofs.Paths.{path_of-means}
use Rattle.vx_laws_scan.proofs.HonestRows.{RowHonest, rows-honest, operand-within}

-- a value is true
abbrev pub Holds : Val → Type 0
Holds v = is_true_val v ≡ true

abbrev pub is_holds : Tri → Bool
is_holds holds = true
is_holds _ = false

pub true-tri : (v : Val) → is_true_val v ≡ is_holds (tri v)
true-tri (bool_val true) = refl
true-tri (bool_val false) = refl
true-tri _ = refl

pub true-truth : (x : Tri) → is_true_val (truth x) ≡ is_holds x
true-truth holds = refl
true-truth _ = refl

and_tri-both : (x y : Tri) → is_holds (and_tri x y) ≡ true → (is_holds x ≡ true) × (is_holds y ≡ true)
and_tri-both holds holds h = (refl, refl)
and_tri-both holds _ h = let no : ⊥ = cc in absurd no
and_tri-both fails holds h = let no : ⊥ = cc in absurd no
and_tri-both fails _ h = let no : ⊥ = cc in absurd no
and_tri-both unknown holds h = let no : ⊥ = cc in absurd no
and_tri-both unknown _ h = let no : ⊥ = cc in absurd no
and_tri-both broken y h = let no : ⊥ = cc in absurd no

or_tri-either : (x y : Tri) → is_holds (or_tri x y) ≡ true → (is_holds x ≡ true) ⊎ (is_holds y ≡ true)
or_tri-either holds y h = inl refl
or_tri-either x holds h = inr refl
or_tri-either fails _ h = let no : ⊥ = cc in absurd no
or_tri-either unknown _ h = let no : ⊥ = cc in absurd no
or_tri-either broken _ h = let no : ⊥ = cc in absurd no

not_and-either : (x y : Tri) → is_holds (not_tri (and_tri x y)) ≡ true → (is_holds (not_tri x) ≡ true) ⊎ (is_holds (not_tri y) ≡ true)
not_and-either fails y h = inl refl
not_and-either x fails h = inr refl
not_and-either holds holds h = let no : ⊥ = cc in absurd no
not_and-either holds _ h = let no : ⊥ = cc in absurd no
not_and-either unknown holds h = let no : ⊥ = cc in absurd no
not_and-either unknown _ h = let no : ⊥ = cc in absurd no
not_and-either broken _ h = let no : ⊥ = cc in absurd no

not_or-both : (x y : Tri) → is_holds (not_tri (or_tri x y)) ≡ true → (is_holds (not_tri x) ≡ true) × (is_holds (not_tri y) ≡ true)
not_or-both fails fails h = (refl, refl)
not_or-both fails _ h = let no : ⊥ = cc in absurd no
not_or-both holds fails h = let no : ⊥ = cc in absurd no
not_or-both holds _ h = let no : ⊥ = cc in absurd no
not_or-both unknown fails h = let no : ⊥ = cc in absurd no
not_or-both unknown _ h = let no : ⊥ = cc in absurd no
not_or-both broken y h = let no : ⊥ = cc in absurd no

not_not : (x : Tri) → is_holds (not_tri (not_tri x)) ≡ true → is_holds x ≡ true
not_not holds h = refl
not_not _ h = let no : ⊥ = cc in absurd no

pub and3-both : (l r : Val) → Holds (and3 l r) → Holds l × Holds r
and3-both l r h =
    let both = and_tri-both (tri l) (tri r) (sym (true-truth (and_tri (tri l) (tri r))) ∙ h) in
    (true-tri l ∙ both.0, true-tri r ∙ both.1)

pub or3-either : (l r : Val) → Holds (or3 l r) → Holds l ⊎ Holds r
or3-either l r h =
    ⊎_elim (λ (a : is_holds (tri l) ≡ true). inl (true-tri l ∙ a)) (λ (a : is_holds (tri r) ≡ true). inr (true-tri r ∙ a))
    (or_tri-either (tri l) (tri r) (sym (true-truth (or_tri (tri l) (tri r))) ∙ h))

-- the truth value of a negation
holds-not : (v : Val) (x : Tri) → tri v ≡ x → Holds (not3 v) → is_holds (not_tri x) ≡ true
holds-not v x e h = ap (λ (z : Tri). is_holds (not_tri z)) (sym e) ∙ (sym (true-truth (not_tri (tri v))) ∙ h)

not-holds : (v : Val) → is_holds (not_tri (tri v)) ≡ true → Holds (not3 v)
not-holds v h = true-truth (not_tri (tri v)) ∙ h

pub not_and3-either : (l r : Val) → Holds (not3 (and3 l r)) → Holds (not3 l) ⊎ Holds (not3 r)
not_and3-either l r h =
    ⊎_elim (λ (a : is_holds (not_tri (tri l)) ≡ true). inl (not-holds l a)) (λ (a : is_holds (not_tri (tri r)) ≡ true). inr (not-holds r a))
    (not_and-either (tri l) (tri r) (holds-not (and3 l r) (and_tri (tri l) (tri r)) (tri-truth (and_tri (tri l) (tri r))) h))

pub not_or3-both : (l r : Val) → Holds (not3 (or3 l r)) → Holds (not3 l) × Holds (not3 r)
not_or3-both l r h =
    let both = not_or-both (tri l) (tri r) (holds-not (or3 l r) (or_tri (tri l) (tri r)) (tri-truth (or_tri (tri l) (tri r))) h) in
    (not-holds l both.0, not-holds r both.1)

pub not3-not3 : (v : Val) → Holds (not3 (not3 v)) → Holds v
not3-not3 v h = true-tri v ∙ not_not (tri v) (holds-not (not3 v) (not_tri (tri v)) (tri-truth (not_tri (tri v))) h)

pub range-apart : (options : BetweenOptions) (b l u : Stat → Option Val) (v lower upper : Val) → IsWithin b v → IsWithin l lower → IsWithin u upper → range_ruled_out options b l u ≡ true
    → Holds (between3 options v lower upper) → ⊥
range-apart options b l u v lower upper i j k h c =
    let lo = bound_operator options.lower_strict in
    let hi = bound_operator options.upper_strict in
    let both = and3-both (compare3 lo lower v) (compare3 hi v upper) c in
    ⊎_elim
    (λ (a : comparison_ruled_out lo l b ≡ true). ruled_out_apart lo l b lower v j i a both.0)
    (λ (a : comparison_ruled_out hi b u ≡ true). ruled_out_apart hi b u v upper i k a both.1)
    (or_cases (comparison_ruled_out lo l b) (comparison_ruled_out hi b u) h)

pub negation-apart : (op : CompareOperator) (l r : Stat → Option Val) (v w : Val) → IsWithin l v → IsWithin r w → comparison_ruled_out (inverse_comparison op) l r ≡ true → Holds (not3 (compare3 op v w)) → ⊥
negation-apart op l r v w i j h c = ruled_out_apart (inverse_comparison op) l r v w i j h (ap is_true_val (sym (not3-compare3 op v w)) ∙ c)

pub range_negation-apart : (options : BetweenOptions) (b l u : Stat → Option Val) (v lower upper : Val) → IsWithin b v → IsWithin l lower → IsWithin u upper → range_negation_ruled_out options b l u ≡ true
    → Holds (not3 (between3 options v lower upper)) → ⊥
range_negation-apart options b l u v lower upper i j k h c =
    let lo = bound_operator options.lower_strict in
    let hi = bound_operator options.upper_strict in
    let parts = and_parts (comparison_ruled_out (inverse_comparison lo) l b) (comparison_ruled_out (inverse_comparison hi) b u) h in
    ⊎_elim
    (λ (a : Holds (not3 (compare3 lo lower v))). negation-apart lo l b lower v j i parts.0 a)
    (λ (a : Holds (not3 (compare3 hi v upper))). negation-apart hi b u v upper i k parts.1 a)
    (not_and3-either (compare3 lo lower v) (compare3 hi v upper) c)

-- a null test is not true of a value that is not null
is_null-apart : (v : Val) → is_null_val v ≡ false → Holds (is_null3 v) → ⊥
is_null-apart null_val h c = cc
is_null-apart _ h c = cc

null-by : (zones : Zones) (block : ℕ) (row : Val) (v : Val) (o : Option (List Bytes)) → RowHonest zones block row → ((path : List Bytes) → o ≡ Some path → v ≡ path_value path row)
    → is_zero (known_at zones block NullCount o) ≡ true → Holds (is_null3 v) → ⊥
null-by zones block row v None h m z c = cc
null-by zones block row v (Some path) h m z c = by-count (known_at zones block NullCount (Some path)) refl z
  where
    by-count : (k : Option Val) → known_at zones block NullCount (Some path) ≡ k → is_zero k ≡ true → ⊥
    by-count None e y = cc
    by-count (Some n) e y = is_null-apart v (ap is_null_val (m path refl) ∙ h.at NullCount path n e y) c

-- membership in a constant list
pub contains-apart : (l v : Val) (bounded : Bool) (bound : Stat → Option Val) → IsWithin bound v → elements_ruled_out l bounded (bound Min) (bound Max) ≡ true → Holds (contains3 l v) → ⊥
contains-apart (list_val no_vals) fault bounded bound i h c = cc
contains-apart (list_val no_vals) null_val bounded bound i h c = cc
contains-apart (list_val no_vals) v bounded bound i h c = cc
contains-apart (list_val (val x xs)) fault bounded bound i h c = cc
contains-apart (list_val (val x xs)) null_val bounded bound i h c = cc
contains-apart (list_val (val x xs)) v bounded bound i h c =
    outside-apart (val x xs) bound v i (and_parts bounded (all_outside (val x xs) (bound Min) (bound Max)) h).1 (is-true (has_element (val x xs) v) c)
  where
    is-true : (b : Bool) → is_true_val (bool_val b) ≡ true → b ≡ true
    is-true true k = refl
    is-true false k = let no : ⊥ = cc in absurd no
contains-apart _ v bounded bound i h c = let no : ⊥ = cc in absurd no

membership-apart : (zones : Zones) (slots : Slots) (block : ℕ) (t : Ty) (row : Val) (l e : Tree) → IsWithin (λ s. known_bound zones block s e) (mean t slots row e) → contains_ruled_out zones block l e ≡ true
    → Holds (contains3 (mean t slots row l) (mean t slots row e)) → ⊥
unfolding mean
membership-apart zones slots block t row (literal s) e i h c =
    contains-apart (value_of s) (mean t slots row e) (bound_available zones e Min && bound_available zones e Max) (λ (st : Stat). known_bound zones block st e) i h c
membership-apart zones slots block t row _ e i h c = let no : ⊥ = cc (h) in no

-- a comparison with a slot
default-apart : (b : Bool) (v : Val) → not b ≡ true → Holds (default_answer b v) → ⊥
default-apart true v h c = cc
default-apart false fault h c = cc
default-apart false _ h c = cc

dynamic-apart : (zones : Zones) (block : ℕ) (e : Tree) (op : CompareOperator) (default : Bool) (v : Val) (slot : Option Val) (stat : Option Stat) → IsWithin (λ s. known_bound zones block s e) v
    → dynamic_ruled_out_by zones block e op default slot stat ≡ true → Holds (dynamic3 op default v slot) → ⊥
dynamic-apart zones block e op default v slot None i h c = cc
dynamic-apart zones block e op default v (Some w) (Some stat) i h c = ruled_out_apart op (λ s. known_bound zones block s e) (slot_bound w) v w i (itself-within (slot_bound w) w refl refl) h c
dynamic-apart zones block e op default v None (Some stat) i h c = default-apart default v (and_parts (not default) (bound_available zones e stat) h).0 c

mutual
  unfolding mean rules_out

  pub ruled_out-never : (zones : Zones) (slots : Slots) (block : ℕ) (t : Ty) (row : Val) (e : Tree) → RowHonest zones block row → rules_out zones slots block e ≡ true → Holds (mean t slots row e) → ⊥
  ruled_out-never zones slots block t row (binary l Operator.And r) h k c =
      let both = and3-both (mean t slots row l) (mean t slots row r) c in
      ⊎_elim
      (λ (a : rules_out zones slots block l ≡ true). ruled_out-never zones slots block t row l h a both.0)
      (λ (a : rules_out zones slots block r ≡ true). ruled_out-never zones slots block t row r h a both.1)
      (or_cases (rules_out zones slots block l) (rules_out zones slots block r) k)
  ruled_out-never zones slots block t row (binary l Operator.Or r) h k c =
      let parts = and_parts (rules_out zones slots block l) (rules_out zones slots block r) k in
      ⊎_elim
      (λ (a : Holds (mean t slots row l)). ruled_out-never zones slots block t row l h parts.0 a)
      (λ (a : Holds (mean t slots row r)). ruled_out-never zones slots block t row r h parts.1 a)
      (or3-either (mean t slots row l) (mean t slots row r) c)
  ruled_out-never zones slots block t row (binary l Operator.Eq r) h k c =
      ruled_out_apart Eq (λ s. known_bound zones block s l) (λ s. known_bound zones block s r) (mean t slots row l) (mean t slots row r) (operand-within zones block t slots row l h) (operand-within zones block t slots row r h) k c
  ruled_out-never zones slots block t row (binary l Operator.NotEq r) h k c =
      ruled_out_apart NotEq (λ s. known_bound zones block s l) (λ s. known_bound zones block s r) (mean t slots row l) (mean t slots row r) (operand-within zones block t slots row l h) (operand-within zones block t slots row r h) k c
  ruled_out-never zones slots block t row (binary l Operator.Gt r) h k c =
      ruled_out_apart Gt (λ s. known_bound zones block s l) (λ s. known_bound zones block s r) (mean t slots row l) (mean t slots row r) (operand-within zones block t slots row l h) (operand-within zones block t slots row r h) k c
  ruled_out-never zones slots block t row (binary l Operator.Gte r) h k c =
      ruled_out_apart Gte (λ s. known_bound zones block s l) (λ s. known_bound zones block s r) (mean t slots row l) (mean t slots row r) (operand-within zones block t slots row l h) (operand-within zones block t slots row r h) k c
  ruled_out-never zones slots block t row (binary l Operator.Lt r) h k c =
      ruled_out_apart Lt (λ s. known_bound zones block s l) (λ s. known_bound zones block s r) (mean t slots row l) (mean t slots row r) (operand-within zones block t slots row l h) (operand-within zones block t slots row r h) k c
  ruled_out-never zones slots block t row (binary l Operator.Lte r) h k c =
      ruled_out_apart Lte (λ s. known_bound zones block s l) (λ s. known_bound zones block s r) (mean t slots row l) (mean t slots row r) (operand-within zones block t slots row l h) (operand-within zones block t slots row r h) k c
  ruled_out-never zones slots block t row (binary l Operator.Add r) h k c = let no : ⊥ = cc (k) in no
  ruled_out-never zones slots block t row (binary l Operator.Sub r) h k c = let no : ⊥ = cc (k) in no
  ruled_out-never zones slots block t row (between e lower upper options) h k c =
      range-apart options (λ s. known_bound zones block s e) (λ s. known_bound zones block s lower) (λ s. known_bound zones block s upper) (mean t slots row e) (mean t slots row lower) (mean t slots row upper)
      (operand-within zones block t slots row e h) (operand-within zones block t slots row lower h) (operand-within zones block t slots row upper h) k c
  ruled_out-never zones slots block t row (is_null_of e) h k c = null-by zones block row (mean t slots row e) (path_of e) h (path_of-means t slots row e) k c
  ruled_out-never zones slots block t row (list_contains l e) h k c = membership-apart zones slots block t row l e (operand-within zones block t slots row e h) k c
  ruled_out-never zones slots block t row (dynamic e op s u default) h k c =
      dynamic-apart zones block e op default (mean t slots row e) (slot_value slots s) (needed_bound op) (operand-within zones block t slots row e h) k c
  ruled_out-never zones slots block t row (not_of e) h k c = ruled_out-negation zones slots block t row e h k c
  ruled_out-never zones slots block t row _ h k c = let no : ⊥ = cc (k) in no

  pub ruled_out-negation : (zones : Zones) (slots : Slots) (block : ℕ) (t : Ty) (row : Val) (e : Tree) → RowHonest zones block row → rules_out_negation zones slots block e ≡ true → Holds (not3 (mean t slots row e)) → ⊥
  ruled_out-negation zones slots block t row (binary l Operator.And r) h k c =
      let parts = and_parts (rules_out_negation zones slots block l) (rules_out_negation zones slots block r) k in
      ⊎_elim
      (λ (a : Holds (not3 (mean t slots row l))). ruled_out-negation zones slots block t row l h parts.0 a)
      (λ (a : Holds (not3 (mean t slots row r))). ruled_out-negation zones slots block t row r h parts.1 a)
      (not_and3-either (mean t slots row l) (mean t slots row r) c)
  ruled_out-negation zones slots block t row (binary l Operator.Or r) h k c =
      let both = not_or3-both (mean t slots row l) (mean t slots row r) c in
      ⊎_elim
      (λ (a : rules_out_negation zones slots block l ≡ true). ruled_out-negation zones slots block t row l h a both.0)
      (λ (a : rules_out_negation zones slots block r ≡ true). ruled_out-negation zones slots block t row r h a both.1)
      (or_cases (rules_out_negation zones slots block l) (rules_out_negation zones slots block r) k)
  ruled_out-negation zones slots block t row (binary l Operator.Eq r) h k c =
      negation-apart Eq (λ s. known_bound zones block s l) (λ s. known_bound zones block s r) (mean t slots row l) (mean t slots row r) (operand-within zones block t slots row l h) (operand-within zones block t slots row r h) k c
  ruled_out-negation zones slots block t row (binary l Operator.NotEq r) h k c =
      negation-apart NotEq (λ s. known_bound zones block s l) (λ s. known_bound zones block s r) (mean t slots row l) (mean t slots row r) (operand-within zones block t slots row l h) (operand-within zones block t slots row r h) k c
  ruled_out-negation zones slots block t row (binary l Operator.Gt r) h k c =
      negation-apart Gt (λ s. known_bound zones block s l) (λ s. known_bound zones block s r) (mean t slots row l) (mean t slots row r) (operand-within zones block t slots row l h) (operand-within zones block t slots row r h) k c
  ruled_out-negation zones slots block t row (binary l Operator.Gte r) h k c =
      negation-apart Gte (λ s. known_bound zones block s l) (λ s. known_bound zones block s r) (mean t slots row l) (mean t slots row r) (operand-within zones block t slots row l h) (operand-within zones block t slots row r h) k c
  ruled_out-negation zones slots block t row (binary l Operator.Lt r) h k c =
      negation-apart Lt (λ s. known_bound zones block s l) (λ s. known_bound zones block s r) (mean t slots row l) (mean t slots row r) (operand-within zones block t slots row l h) (operand-within zones block t slots row r h) k c
  ruled_out-negation zones slots block t row (binary l Operator.Lte r) h k c =
      negation-apart Lte (λ s. known_bound zones block s l) (λ s. known_bound zones block s r) (mean t slots row l) (mean t slots row r) (operand-within zones block t slots row l h) (operand-within zones block t slots row r h) k c
  ruled_out-negation zones slots block t row (binary l Operator.Add r) h k c = let no : ⊥ = cc (k) in no
  ruled_out-negation zones slots block t row (binary l Operator.Sub r) h k c = let no : ⊥ = cc (k) in no
  ruled_out-negation zones slots block t row (between e lower upper options) h k c =
      range_negation-apart options (λ s. known_bound zones block s e) (λ s. known_bound zones block s lower) (λ s. known_bound zones block s upper) (mean t slots row e) (mean t slots row lower) (mean t slots row upper)
      (operand-within zones block t slots row e h) (operand-within zones block t slots row lower h) (operand-within zones block t slots row upper h) k c
  ruled_out-negation zones slots block t row (not_of e) h k c = ruled_out-never zones slots block t row e h k (not3-not3 (mean t slots row e) c)
  ruled_out-negation zones slots block t row _ h k c = let no : ⊥ = cc (k) in no

never-each : (zones : Zones) (slots : Slots) (block : ℕ) (t : Ty) (e : Tree) (rows : List Val) → rules_out zones slots block e ≡ true → AllByRecursion (RowHonest zones block) rows
    → AllByRecursion (λ row. is_true_val (mean t slots row e) ≡ false) rows
never-each zones slots block t e [] k h = tt
never-each zones slots block t e (row ∷ rows) k h =
    (false_from_ne_true (is_true_val (mean t slots row e)) (ruled_out-never zones slots block t row e h.0 k), never-each zones slots block t e rows k h.1)

pub never-in : (zones : Zones) (table : Table) (slots : Slots) (t : Ty) (e : Tree) (block : ℕ) (rows : List Val) → IsHonest zones table → slice_get table.blocks block ≡ Some rows
    → rules_out zones slots block e ≡ true → AllByRecursion (λ row. is_true_val (mean t slots row e) ≡ false) rows
never-in zones table slots t e block rows h s k = never-each zones slots block t e rows k (rows-honest zones table block rows h s)

pub ruled_out_never_true : RuledOutIsNeverTrue
ruled_out_never_true zones table slots t e block rows h s k =
    All-from_recursion (λ row. is_true_val (mean t slots row e) ≡ false) rows (never-in zones table slots t e block rows h s k)

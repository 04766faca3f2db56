-- The slots that fit a filter fit its pruning expression: each comparison with a slot there comes of one of the filter, with the same slot and type.
use Rattle.std.proofs.Common.{◌≡◌, ℕ, refl, Bool, true, false, cond, not, ◌&&◌, Option, Some, None, List}
use Rattle.std.specs.Prelude.{option_map, MatchOption}
use Rattle.std.proofs.lemmas.Bool.{and_parts, and_from}
use Rattle.vx_dtype.specs.declared.CompareOperator.{CompareOperator}
use Rattle.vx_dtype.specs.declared.CompareOperator.TheVariants.{Eq, NotEq, Gt, Gte, Lt, Lte}
use Rattle.vx_dtype.specs.declared.Stat.{Stat}
use Rattle.vx_dtype.specs.declared.Stat.TheVariants.{Min, Max, NaNCount, NullCount}
use Rattle.vx_dtype.specs.Order.{bound_operator}
use Rattle.vx_dtype.specs.Types.{Bytes, Ty, list_ty}
use Rattle.vx_dtype.specs.Values.{Raw, raw_null, raw_bool, raw_int, raw_text, raw_list, raw_struct, Raws, no_raws, raw}
use Rattle.vx_expr.specs.declared.Operator.{Operator}
use Rattle.vx_expr.specs.Operators.{comparison_of, inverse_comparison, operator_of}
use Rattle.vx_expr.specs.Slots.{slot_held}
use Rattle.vx_expr.specs.Trees.{Tree, literal, binary, not_of, is_null_of, between, list_contains, dynamic}
use Rattle.vx_semantics.specs.Meaning.{Slots}
use Rattle.vx_semantics.specs.Slots.{held_fits, slots_fit}
use Rattle.vx_semantics.specs.Paths.{path_of}
use Rattle.vx_passes.specs.Catalogs.{Catalog, statistic_column, is_alone_among, statistics_among, available_paths}
use Rattle.vx_semantics.specs.Tables.{statistic_path}
use Rattle.vx_passes.specs.Falsifying.{Question, Found, found_by, found_in, asked_for, count_of, is_zero_count, bound_of, compared_by, compared_where, bounds_falsified, are_numbers, behind_guard, comparison_falsified, where_comparison, outside, all_outside_after, one_value, and_of, or_of, joined_known, elements_falsified, list_falsified, contains_falsified, dynamic_falsified, falsified, negation_falsified}
use Rattle.vx_passes.specs.PruningTables.{pruning_where}
use Rattle.vx_laws_pruning.specs.PruningTypes.{PruningSlotsFit}

-- the slots fit an expression, if there is one
abbrev Fitting : Slots → Option Tree → Type 0
Fitting slots None = Unit {0}
Fitting slots (Some e) = slots_fit slots e ≡ true

module _ (slots : Slots) where
  binary-fits : (op : Operator) (x y : Tree) → slots_fit slots x ≡ true → slots_fit slots y ≡ true → slots_fit slots (binary x op y) ≡ true
  unfolding slots_fit
  binary-fits op x y h k = and_from (slots_fit slots x) (slots_fit slots y) h k

  zero-fits : (n : Tree) → slots_fit slots n ≡ true → slots_fit slots (is_zero_count n) ≡ true
  unfolding slots_fit
  zero-fits n h = and_from (slots_fit slots n) true h refl

  next-fits : (next : Tree → Found) (o : Option Tree) (asked : List Question) → Fitting slots o → ((x : Tree) → slots_fit slots x ≡ true → Fitting slots (next x).tree)
      → Fitting slots (found_by next o asked).tree
  next-fits next None asked h k = tt
  next-fits next (Some x) asked h k = k x h

  in-fits : (around : Tree → Tree) (o : Option Tree) → Fitting slots o → ((x : Tree) → slots_fit slots x ≡ true → slots_fit slots (around x) ≡ true) → Fitting slots (option_map around o)
  in-fits around None h k = tt
  in-fits around (Some x) h k = k x h

  joined-fits : (op : Operator) (o p : Option Tree) → Fitting slots o → Fitting slots p → Fitting slots (joined_known (λ x y. binary x op y) o p)
  joined-fits op (Some x) (Some y) h k = binary-fits op x y h k
  joined-fits op (Some x) None h k = h
  joined-fits op None p h k = k

  both-fit : (op : Operator) (o : Option Tree) (asked : List Question) (y : Found) → Fitting slots o → Fitting slots y.tree → Fitting slots (found_by (λ x. found_in (λ z. binary x op z) y) o asked).tree
  both-fit op o asked y h k = next-fits (λ x. found_in (λ z. binary x op z) y) o asked h (λ x i. in-fits (λ z. binary x op z) y.tree k (λ z j. binary-fits op x z i j))

  compared-fit : (op : CompareOperator) (o p : Option Tree) → Fitting slots o → Fitting slots p → Fitting slots (compared_where op o p)
  compared-fit op (Some x) (Some y) h k = binary-fits (operator_of op) x y h k
  compared-fit op (Some x) None h k = tt
  compared-fit op None p h k = tt

  guard-fits : (o : Option Tree) (e : Tree) → Fitting slots o → slots_fit slots e ≡ true → slots_fit slots (behind_guard o e) ≡ true
  guard-fits None e h k = k
  guard-fits (Some x) e h k = binary-fits Operator.And x e h k

  where-fits : (o : Option CompareOperator) (falsify : CompareOperator → Found) → ((op : CompareOperator) → Fitting slots (falsify op).tree) → Fitting slots (where_comparison o falsify).tree
  where-fits None falsify h = tt
  where-fits (Some op) falsify h = h op

  outside-fits : (greatest least v : Tree) → slots_fit slots greatest ≡ true → slots_fit slots least ≡ true → slots_fit slots v ≡ true → slots_fit slots (outside greatest least v) ≡ true
  outside-fits greatest least v g l h =
      binary-fits Operator.Or (compared_by Lt greatest v) (compared_by Gt least v) (binary-fits Operator.Lt greatest v g h) (binary-fits Operator.Gt least v l h)

  outside-constant : (greatest least : Tree) (t : Ty) (x : Raw) → slots_fit slots greatest ≡ true → slots_fit slots least ≡ true
      → slots_fit slots (outside greatest least (literal (record { ty = t; value = x }))) ≡ true
  unfolding slots_fit
  outside-constant greatest least t x g l = outside-fits greatest least (literal (record { ty = t; value = x })) g l refl

  outside-all : (greatest least : Tree) (t : Ty) → slots_fit slots greatest ≡ true → slots_fit slots least ≡ true → (xs : Raws) (e : Tree) → slots_fit slots e ≡ true
      → slots_fit slots (all_outside_after greatest least t e xs) ≡ true
  outside-all greatest least t g l no_raws e h = h
  outside-all greatest least t g l (raw x xs) e h =
      let out = outside greatest least (literal (record { ty = t; value = x })) in
      outside-all greatest least t g l xs (and_of e out) (binary-fits Operator.And e out h (outside-constant greatest least t x g l))

  -- a catalog whose expressions the slots fit
  module _ (catalog : Catalog) (answers : (path : List Bytes) (stat : Stat) → Fitting slots (catalog path stat)) where
    asked-fits : (stat : Stat) (o : Option (List Bytes)) → Fitting slots (asked_for catalog stat o).tree
    asked-fits stat None = tt
    asked-fits stat (Some path) = answers path stat

    bound-fits : (stat : Stat) (e : Tree) → Fitting slots (bound_of catalog stat e).tree
    unfolding slots_fit
    bound-fits stat (literal s) = refl
    bound-fits stat e = asked-fits stat (path_of e)

    pair-fits : (op : CompareOperator) (stat other : Stat) (l r : Tree) → Fitting slots (found_by (λ x. found_in (compared_by op x) (bound_of catalog other r)) (bound_of catalog stat l).tree (bound_of catalog stat l).asked).tree
    pair-fits op stat other l r = both-fit (operator_of op) (bound_of catalog stat l).tree (bound_of catalog stat l).asked (bound_of catalog other r) (bound-fits stat l) (bound-fits other r)

    bounds-fit : (op : CompareOperator) (l r : Tree) → Fitting slots (bounds_falsified catalog op l r).tree
    bounds-fit Gt l r = pair-fits Lte Max Min l r
    bounds-fit Gte l r = pair-fits Lt Max Min l r
    bounds-fit Lt l r = pair-fits Gte Min Max l r
    bounds-fit Lte l r = pair-fits Gt Min Max l r
    bounds-fit Eq l r =
        joined-fits Operator.Or (compared_where Gt (bound_of catalog Min l).tree (bound_of catalog Max r).tree) (compared_where Gt (bound_of catalog Min r).tree (bound_of catalog Max l).tree)
        (compared-fit Gt (bound_of catalog Min l).tree (bound_of catalog Max r).tree (bound-fits Min l) (bound-fits Max r))
        (compared-fit Gt (bound_of catalog Min r).tree (bound_of catalog Max l).tree (bound-fits Min r) (bound-fits Max l))
    bounds-fit NotEq l r =
        next-fits _ (bound_of catalog Min l).tree (bound_of catalog Min l).asked (bound-fits Min l) (λ a h.
        next-fits _ (bound_of catalog Max l).tree (bound_of catalog Max l).asked (bound-fits Max l) (λ b i.
        next-fits _ (bound_of catalog Min r).tree (bound_of catalog Min r).asked (bound-fits Min r) (λ c j.
        in-fits (one_value a b c) (bound_of catalog Max r).tree (bound-fits Max r) (λ d k.
        binary-fits Operator.And (compared_by Eq a d) (compared_by Eq b c) (binary-fits Operator.Eq a d h k) (binary-fits Operator.Eq b c i j)))))

    numbers-fit : (l r : Tree) → Fitting slots (are_numbers catalog l r).tree
    numbers-fit l r =
        joined-fits Operator.And (option_map is_zero_count (count_of catalog NaNCount l).tree) (option_map is_zero_count (count_of catalog NaNCount r).tree)
        (in-fits is_zero_count (count_of catalog NaNCount l).tree (asked-fits NaNCount (path_of l)) zero-fits)
        (in-fits is_zero_count (count_of catalog NaNCount r).tree (asked-fits NaNCount (path_of r)) zero-fits)

    comparison-fits : (l r : Tree) (op : CompareOperator) → Fitting slots (comparison_falsified catalog l r op).tree
    comparison-fits l r op =
        next-fits _ (bounds_falsified catalog op l r).tree (bounds_falsified catalog op l r).asked (bounds-fit op l r) (λ e h. guard-fits (are_numbers catalog l r).tree e (numbers-fit l r) h)

    elements-fit : (e : Tree) (t : Ty) (xs : Raws) → Fitting slots (elements_falsified catalog e t xs).tree
    unfolding slots_fit
    elements-fit e t no_raws = refl
    elements-fit e t (raw x xs) =
        next-fits _ (bound_of catalog Max e).tree (bound_of catalog Max e).asked (bound-fits Max e) (λ greatest g.
        next-fits _ (bound_of catalog Min e).tree (bound_of catalog Min e).asked (bound-fits Min e) (λ least l.
        outside-all greatest least t g l xs (outside greatest least (literal (record { ty = t; value = x }))) (outside-constant greatest least t x g l)))

    list-fits : (e : Tree) (t : Ty) (v : Raw) → Fitting slots (list_falsified catalog e t v).tree
    list-fits e (list_ty d n) (raw_list xs) = elements-fit e d xs
    list-fits e (list_ty d n) raw_null = tt
    list-fits e (list_ty d n) (raw_bool b) = tt
    list-fits e (list_ty d n) (raw_int i) = tt
    list-fits e (list_ty d n) (raw_text s) = tt
    list-fits e (list_ty d n) (raw_struct xs) = tt
    list-fits e _ v = tt

    contains-fits : (l e : Tree) → Fitting slots (contains_falsified catalog l e).tree
    contains-fits (literal s) e = list-fits e s.ty s.value
    contains-fits _ e = tt

    dynamic-fits : (e : Tree) (op : CompareOperator) (n : ℕ) (t : Ty) (default : Bool) → held_fits (slot_held slots n) t ≡ true
        → Fitting slots (dynamic_falsified catalog e op (λ o. λ b. dynamic b o n t default)).tree
    unfolding slots_fit
    dynamic-fits e op n t default h = by-operator op
      where
        slot-fits : (stat : Stat) (o : CompareOperator) → Fitting slots (option_map (λ b. dynamic b o n t default) (bound_of catalog stat e).tree)
        slot-fits stat o = in-fits (λ b. dynamic b o n t default) (bound_of catalog stat e).tree (bound-fits stat e) (λ x k. and_from (held_fits (slot_held slots n) t) (slots_fit slots x) h k)

        by-operator : (o : CompareOperator) → Fitting slots (dynamic_falsified catalog e o (λ c. λ b. dynamic b c n t default)).tree
        by-operator Gt = slot-fits Max Lte
        by-operator Gte = slot-fits Max Lt
        by-operator Lt = slot-fits Min Gte
        by-operator Lte = slot-fits Min Gt
        by-operator Eq = tt
        by-operator NotEq = tt

    mutual
      unfolding falsified slots_fit

      falsified-fits : (e : Tree) → slots_fit slots e ≡ true → Fitting slots (falsified catalog e).tree
      falsified-fits (binary l Operator.And r) h =
          let parts = and_parts (slots_fit slots l) (slots_fit slots r) h in
          joined-fits Operator.Or (falsified catalog l).tree (falsified catalog r).tree (falsified-fits l parts.0) (falsified-fits r parts.1)
      falsified-fits (binary l Operator.Or r) h =
          let parts = and_parts (slots_fit slots l) (slots_fit slots r) h in
          both-fit Operator.And (falsified catalog l).tree (falsified catalog l).asked (falsified catalog r) (falsified-fits l parts.0) (falsified-fits r parts.1)
      falsified-fits (binary l op r) h = where-fits (comparison_of op) (comparison_falsified catalog l r) (comparison-fits l r)
      falsified-fits (between e lower upper options) h =
          joined-fits Operator.Or (comparison_falsified catalog lower e (bound_operator options.lower_strict)).tree (comparison_falsified catalog e upper (bound_operator options.upper_strict)).tree
          (comparison-fits lower e (bound_operator options.lower_strict)) (comparison-fits e upper (bound_operator options.upper_strict))
      falsified-fits (is_null_of e) h = in-fits is_zero_count (count_of catalog NullCount e).tree (asked-fits NullCount (path_of e)) zero-fits
      falsified-fits (list_contains l e) h = contains-fits l e
      falsified-fits (dynamic e op n t default) h = dynamic-fits e op n t (not default) (and_parts (held_fits (slot_held slots n) t) (slots_fit slots e) h).0
      falsified-fits (not_of e) h = negation-fits e h
      falsified-fits _ h = tt

      negation-fits : (e : Tree) → slots_fit slots e ≡ true → Fitting slots (negation_falsified catalog e).tree
      negation-fits (binary l Operator.And r) h =
          let parts = and_parts (slots_fit slots l) (slots_fit slots r) h in
          both-fit Operator.And (negation_falsified catalog l).tree (negation_falsified catalog l).asked (negation_falsified catalog r) (negation-fits l parts.0) (negation-fits r parts.1)
      negation-fits (binary l Operator.Or r) h =
          let parts = and_parts (slots_fit slots l) (slots_fit slots r) h in
          joined-fits Operator.Or (negation_falsified catalog l).tree (negation_falsified catalog r).tree (negation-fits l parts.0) (negation-fits r parts.1)
      negation-fits (binary l op r) h =
          where-fits (comparison_of op) (λ o. comparison_falsified catalog l r (inverse_comparison o)) (λ o. comparison-fits l r (inverse_comparison o))
      negation-fits (between e lower upper options) h =
          both-fit Operator.And (comparison_falsified catalog lower e (inverse_comparison (bound_operator options.lower_strict))).tree
          (comparison_falsified catalog lower e (inverse_comparison (bound_operator options.lower_strict))).asked
          (comparison_falsified catalog e upper (inverse_comparison (bound_operator options.upper_strict)))
          (comparison-fits lower e (inverse_comparison (bound_operator options.lower_strict))) (comparison-fits e upper (inverse_comparison (bound_operator options.upper_strict)))
      negation-fits (not_of e) h = falsified-fits e h
      negation-fits _ h = tt

  among-fits : (members : List (List Bytes)) (path : List Bytes) (stat : Stat) → Fitting slots (statistics_among members path stat)
  unfolding slots_fit
  among-fits members path stat = by-test (is_alone_among members (statistic_path path stat))
    where
      by-test : (b : Bool) → Fitting slots (cond b (Some (statistic_column path stat)) None)
      by-test true = refl
      by-test false = tt

pub pruning_slots_fit : PruningSlotsFit
pruning_slots_fit zones slots e h =
    let catalog = statistics_among (available_paths zones) in
    by-tree catalog (falsified catalog e).tree (falsified catalog e).asked (falsified-fits slots catalog (among-fits slots (available_paths zones)) e h)
  where
    by-tree : (catalog : Catalog) (o : Option Tree) (asked : List Question) → Fitting slots o → MatchOption (pruning_where catalog o asked) (Unit {0}) (λ p. slots_fit slots p.tree ≡ true)
    by-tree catalog None asked i = tt
    by-tree catalog (Some x) asked i = i

-- For the checker: no public clause cites this.
-- The tests of equality answer true exactly where the two sides are one.
use Rattle.std.specs.Prelude.{◌≡◌, ◌==◌, true, ◌&&◌, refl, Decides}
use Rattle.std.proofs.Common.{ap, subst}
use Rattle.std.specs.Cmp.{IsEquivalence, decided, unsigned_Decides, first_so, second_so}
use Rattle.std.proofs.lemmas.Slice.Eq.{bytes_eq-Decides}
use Rattle.vx_dtype.specs.declared.CompareOperator.{CompareOperator}
use Rattle.vx_dtype.specs.declared.StrictComparison.{StrictComparison}
use Rattle.vx_dtype.specs.declared.BetweenOptions.{BetweenOptions}
use Rattle.vx_dtype.specs.Equal.{same_bool, ty_eq}
use Rattle.vx_dtype.specs.EqualLaws.{names_decides, nullability_decides, bool_decides, ty_decides, typed_decides}
use Rattle.vx_expr.specs.declared.operators.Operator.{Operator}
use Rattle.vx_expr.specs.declared.selections.FieldSelection.{FieldSelection}
use Rattle.vx_expr.specs.Trees.{Tree, root, literal, get_item, binary, not_of, is_null_of, like, between}
use Rattle.vx_expr.specs.Trees.{cast, list_contains, pack, merge, select, dynamic, Trees, no_trees, tree}
use Rattle.vx_expr.specs.Equal.{same_operator, same_comparison, same_strictness, same_options, selection_eq, tree_eq, trees_eq}

pub operator_decides : (o q : Operator) → Decides (same_operator o q) (o ≡ q)
operator_decides Operator.Eq Operator.Eq = (λ e. refl, λ e. refl)
operator_decides Operator.NotEq Operator.NotEq = (λ e. refl, λ e. refl)
operator_decides Operator.Gt Operator.Gt = (λ e. refl, λ e. refl)
operator_decides Operator.Gte Operator.Gte = (λ e. refl, λ e. refl)
operator_decides Operator.Lt Operator.Lt = (λ e. refl, λ e. refl)
operator_decides Operator.Lte Operator.Lte = (λ e. refl, λ e. refl)
operator_decides Operator.And Operator.And = (λ e. refl, λ e. refl)
operator_decides Operator.Or Operator.Or = (λ e. refl, λ e. refl)
operator_decides Operator.Add Operator.Add = (λ e. refl, λ e. refl)
operator_decides Operator.Sub Operator.Sub = (λ e. refl, λ e. refl)
operator_decides _ _ = (λ e. cc, λ e. cc)

pub comparison_decides : (o q : CompareOperator) → Decides (same_comparison o q) (o ≡ q)
comparison_decides CompareOperator.Eq CompareOperator.Eq = (λ e. refl, λ e. refl)
comparison_decides CompareOperator.NotEq CompareOperator.NotEq = (λ e. refl, λ e. refl)
comparison_decides CompareOperator.Gt CompareOperator.Gt = (λ e. refl, λ e. refl)
comparison_decides CompareOperator.Gte CompareOperator.Gte = (λ e. refl, λ e. refl)
comparison_decides CompareOperator.Lt CompareOperator.Lt = (λ e. refl, λ e. refl)
comparison_decides CompareOperator.Lte CompareOperator.Lte = (λ e. refl, λ e. refl)
comparison_decides _ _ = (λ e. cc, λ e. cc)

pub strictness_decides : (s t : StrictComparison) → Decides (same_strictness s t) (s ≡ t)
strictness_decides StrictComparison.Strict StrictComparison.Strict = (λ e. refl, λ e. refl)
strictness_decides StrictComparison.NonStrict StrictComparison.NonStrict = (λ e. refl, λ e. refl)
strictness_decides _ _ = (λ e. cc, λ e. cc)

pub options_same : (o q : BetweenOptions) → same_options o q ≡ true → o ≡ q
options_same o q e =
    λ i. record {
      lower_strict = (strictness_decides o.lower_strict q.lower_strict).0 (first_so _ _ e) i;
      upper_strict =
          (strictness_decides o.upper_strict q.upper_strict).0 (second_so _ _ e) i;
    }

pub options_own : (o : BetweenOptions) → same_options o o ≡ true
options_own o = λ i. (strictness_decides o.lower_strict o.lower_strict).1 refl i && (strictness_decides o.upper_strict o.upper_strict).1 refl i

pub selection_decides : (s t : FieldSelection) → Decides (selection_eq s t) (s ≡ t)
selection_decides (FieldSelection.Include fs) (FieldSelection.Include gs) =
    (λ e. ap FieldSelection.Include ((names_decides fs gs).0 e), λ e. (names_decides fs gs).1 cc)
selection_decides (FieldSelection.Exclude fs) (FieldSelection.Exclude gs) =
    (λ e. ap FieldSelection.Exclude ((names_decides fs gs).0 e), λ e. (names_decides fs gs).1 cc)
selection_decides _ _ = (λ e. cc, λ e. cc)

mutual
  unfolding tree_eq

  pub tree_eq-same : (s t : Tree) → tree_eq s t ≡ true → s ≡ t
  tree_eq-same root root e = refl
  tree_eq-same (literal s) (literal t) e = ap literal ((typed_decides s t).0 e)
  tree_eq-same (get_item f a) (get_item g b) e = λ i. get_item ((bytes_eq-Decides f g).0 (first_so _ _ e) i) (tree_eq-same a b (second_so _ _ e) i)
  tree_eq-same (binary l op r) (binary k oq q) e =
      λ i. binary (tree_eq-same l k (first_so _ _ (second_so _ _ e)) i) ((operator_decides op oq).0 (first_so _ _ e) i)
      (tree_eq-same r q (second_so _ _ (second_so _ _ e)) i)
  tree_eq-same (not_of a) (not_of b) e = ap not_of (tree_eq-same a b e)
  tree_eq-same (is_null_of a) (is_null_of b) e = ap is_null_of (tree_eq-same a b e)
  tree_eq-same (like a p m k) (like b q n j) e =
      let second : (same_bool k j && (tree_eq a b && tree_eq p q)) ≡ true = second_so (same_bool m n) _ e in
      let third : (tree_eq a b && tree_eq p q) ≡ true = second_so (same_bool k j) _ second in
      λ i. like (tree_eq-same a b (first_so _ (tree_eq p q) third) i) (tree_eq-same p q (second_so (tree_eq a b) _ third) i)
      ((bool_decides m n).0 (first_so _ _ e) i) ((bool_decides k j).0 (first_so _ _ second) i)
  tree_eq-same (between a l u o) (between b k v q) e =
      let second : (tree_eq a b && (tree_eq l k && tree_eq u v)) ≡ true = second_so (same_options o q) _ e in
      let third : (tree_eq l k && tree_eq u v) ≡ true = second_so (tree_eq a b) _ second in
      λ i. between (tree_eq-same a b (first_so _ _ second) i) (tree_eq-same l k (first_so _ (tree_eq u v) third) i)
      (tree_eq-same u v (second_so (tree_eq l k) _ third) i) (options_same o q (first_so _ _ e) i)
  tree_eq-same (cast a t) (cast b u) e = λ i. cast (tree_eq-same a b (second_so _ _ e) i) ((ty_decides t u).0 (first_so _ _ e) i)
  tree_eq-same (list_contains l v) (list_contains k w) e = λ i. list_contains (tree_eq-same l k (first_so _ _ e) i) (tree_eq-same v w (second_so _ _ e) i)
  tree_eq-same (pack fs es n) (pack gs ds m) e =
      λ i. pack ((names_decides fs gs).0 (first_so _ _ e) i) (trees_eq-same es ds (second_so _ _ (second_so _ _ e)) i)
      ((nullability_decides n m).0 (first_so _ _ (second_so _ _ e)) i)
  tree_eq-same (merge es n) (merge ds m) e = λ i. merge (trees_eq-same es ds (second_so _ _ e) i) ((nullability_decides n m).0 (first_so _ _ e) i)
  tree_eq-same (select s a) (select t b) e = λ i. select ((selection_decides s t).0 (first_so _ _ e) i) (tree_eq-same a b (second_so _ _ e) i)
  tree_eq-same (dynamic a op k t x) (dynamic b oq j u y) e =
      let second : (k == j && (ty_eq t u && (same_bool x y && tree_eq a b))) ≡ true = second_so (same_comparison op oq) _ e in
      let third : (ty_eq t u && (same_bool x y && tree_eq a b)) ≡ true = second_so (k == j) _ second in
      let fourth : (same_bool x y && tree_eq a b) ≡ true = second_so (ty_eq t u) _ third in
      λ i. dynamic (tree_eq-same a b (second_so (same_bool x y) _ fourth) i) ((comparison_decides op oq).0 (first_so _ _ e) i)
      ((unsigned_Decides k j).0 (first_so _ _ second) i) ((ty_decides t u).0 (first_so _ _ third) i)
      ((bool_decides x y).0 (first_so _ (tree_eq a b) fourth) i)
  tree_eq-same _ _ e = cc

  pub trees_eq-same : (es ds : Trees) → trees_eq es ds ≡ true → es ≡ ds
  trees_eq-same no_trees no_trees e = refl
  trees_eq-same (tree a es) (tree b ds) e = λ i. tree (tree_eq-same a b (first_so _ _ e) i) (trees_eq-same es ds (second_so _ _ e) i)
  trees_eq-same _ _ e = cc

mutual
  unfolding tree_eq

  pub tree_eq-own : (t : Tree) → tree_eq t t ≡ true
  tree_eq-own root = refl
  tree_eq-own (literal s) = (typed_decides s s).1 refl
  tree_eq-own (get_item f a) = λ i. (bytes_eq-Decides f f).1 refl i && tree_eq-own a i
  tree_eq-own (binary l op r) = λ i. (operator_decides op op).1 refl i && (tree_eq-own l i && tree_eq-own r i)
  tree_eq-own (not_of a) = tree_eq-own a
  tree_eq-own (is_null_of a) = tree_eq-own a
  tree_eq-own (like a p m k) = λ i. (bool_decides m m).1 refl i && ((bool_decides k k).1 refl i && (tree_eq-own a i && tree_eq-own p i))
  tree_eq-own (between a l u o) = λ i. options_own o i && (tree_eq-own a i && (tree_eq-own l i && tree_eq-own u i))
  tree_eq-own (cast a t) = λ i. (ty_decides t t).1 refl i && tree_eq-own a i
  tree_eq-own (list_contains l v) = λ i. tree_eq-own l i && tree_eq-own v i
  tree_eq-own (pack fs es n) = λ i. (names_decides fs fs).1 refl i && ((nullability_decides n n).1 refl i && trees_eq-own es i)
  tree_eq-own (merge es n) = λ i. (nullability_decides n n).1 refl i && trees_eq-own es i
  tree_eq-own (select s a) = λ i. (selection_decides s s).1 refl i && tree_eq-own a i
  tree_eq-own (dynamic a op k t x) =
      λ i. (comparison_decides op op).1 refl i &&
      ((unsigned_Decides k k).1 refl i && ((ty_decides t t).1 refl i && ((bool_decides x x).1 refl i && tree_eq-own a i)))

  pub trees_eq-own : (es : Trees) → trees_eq es es ≡ true
  trees_eq-own no_trees = refl
  trees_eq-own (tree a es) = λ i. tree_eq-own a i && trees_eq-own es i

pub tree_decides : (s t : Tree) → Decides (tree_eq s t) (s ≡ t)
tree_decides s t = (tree_eq-same s t, λ e. subst (λ u. tree_eq s u ≡ true) e (tree_eq-own s))

pub tree_eq_equiv : IsEquivalence tree_eq
tree_eq_equiv = decided tree_eq tree_decides

pub selection_eq_equiv : IsEquivalence selection_eq
selection_eq_equiv = decided selection_eq selection_decides

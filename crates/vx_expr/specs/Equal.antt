-- When expressions are equal: a test by their structure.
use Rattle.std.specs.Prelude.{◌==◌, Bool, true, false, ◌&&◌}
use Rattle.std.specs.Str.{bytes_eq}
use Rattle.vx_dtype.specs.declared.CompareOperator.{CompareOperator}
use Rattle.vx_dtype.specs.declared.StrictComparison.{StrictComparison}
use Rattle.vx_dtype.specs.declared.BetweenOptions.{BetweenOptions}
use Rattle.vx_dtype.specs.Equal.{names_eq, same_nullability, same_bool, ty_eq, typed_eq}
use Rattle.vx_expr.specs.declared.operators.Operator.{Operator}
use Rattle.vx_expr.specs.declared.selections.FieldSelection.{FieldSelection}
use Rattle.vx_expr.specs.Trees.{Tree, root, literal, get_item, binary, not_of, is_null_of, like, between}
use Rattle.vx_expr.specs.Trees.{cast, list_contains, pack, merge, select, dynamic, Trees, no_trees, tree}

-- whether two operators are the same
abbrev pub same_operator : Operator → Operator → Bool
same_operator Operator.Eq Operator.Eq = true
same_operator Operator.NotEq Operator.NotEq = true
same_operator Operator.Gt Operator.Gt = true
same_operator Operator.Gte Operator.Gte = true
same_operator Operator.Lt Operator.Lt = true
same_operator Operator.Lte Operator.Lte = true
same_operator Operator.And Operator.And = true
same_operator Operator.Or Operator.Or = true
same_operator Operator.Add Operator.Add = true
same_operator Operator.Sub Operator.Sub = true
same_operator _ _ = false

-- whether two comparisons are the same
abbrev pub same_comparison : CompareOperator → CompareOperator → Bool
same_comparison CompareOperator.Eq CompareOperator.Eq = true
same_comparison CompareOperator.NotEq CompareOperator.NotEq = true
same_comparison CompareOperator.Gt CompareOperator.Gt = true
same_comparison CompareOperator.Gte CompareOperator.Gte = true
same_comparison CompareOperator.Lt CompareOperator.Lt = true
same_comparison CompareOperator.Lte CompareOperator.Lte = true
same_comparison _ _ = false

-- whether two bounds are strict or not alike
abbrev pub same_strictness : StrictComparison → StrictComparison → Bool
same_strictness StrictComparison.Strict StrictComparison.Strict = true
same_strictness StrictComparison.NonStrict StrictComparison.NonStrict = true
same_strictness _ _ = false

-- the same of both bounds of two ranges
abbrev pub same_options : BetweenOptions → BetweenOptions → Bool
same_options o q = same_strictness o.lower_strict q.lower_strict && same_strictness o.upper_strict q.upper_strict

-- whether two choices of fields are the same, the order of their names included
abbrev pub selection_eq : FieldSelection → FieldSelection → Bool
selection_eq (FieldSelection.Include fs) (FieldSelection.Include gs) = names_eq fs gs
selection_eq (FieldSelection.Exclude fs) (FieldSelection.Exclude gs) = names_eq fs gs
selection_eq _ _ = false

unfoldable mutual
  -- whether two expressions are the same
  pub tree_eq : Tree → Tree → Bool
  tree_eq root root = true
  tree_eq (literal s) (literal t) = typed_eq s t
  tree_eq (get_item f e) (get_item g d) = bytes_eq f g && tree_eq e d
  tree_eq (binary l op r) (binary k oq q) = same_operator op oq && (tree_eq l k && tree_eq r q)
  tree_eq (not_of e) (not_of d) = tree_eq e d
  tree_eq (is_null_of e) (is_null_of d) = tree_eq e d
  tree_eq (like e p m k) (like d q n j) = same_bool m n && (same_bool k j && (tree_eq e d && tree_eq p q))
  tree_eq (between e l u o) (between d k v q) = same_options o q && (tree_eq e d && (tree_eq l k && tree_eq u v))
  tree_eq (cast e t) (cast d u) = ty_eq t u && tree_eq e d
  tree_eq (list_contains l v) (list_contains k w) = tree_eq l k && tree_eq v w
  tree_eq (pack fs es n) (pack gs ds m) = names_eq fs gs && (same_nullability n m && trees_eq es ds)
  tree_eq (merge es n) (merge ds m) = same_nullability n m && trees_eq es ds
  tree_eq (select s e) (select t d) = selection_eq s t && tree_eq e d
  tree_eq (dynamic e op k t b) (dynamic d oq j u c) = same_comparison op oq && (k == j && (ty_eq t u && (same_bool b c && tree_eq e d)))
  tree_eq _ _ = false

  -- whether two lists of expressions are the same
  pub trees_eq : Trees → Trees → Bool
  trees_eq no_trees no_trees = true
  trees_eq (tree e es) (tree d ds) = tree_eq e d && trees_eq es ds
  trees_eq _ _ = false

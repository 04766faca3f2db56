-- The compact text of an expression, one line for each kind.
use Rattle.std.specs.Prelude.{[], ◌++◌, List, ◌∷◌, codes}
use Rattle.vx_dtype.specs.declared.StrictComparison.{StrictComparison}
use Rattle.vx_dtype.specs.Types.{Bytes}
use Rattle.vx_dtype.specs.Order.{bound_operator}
use Rattle.vx_dtype.specs.ScalarTexts.{scalar_text}
use Rattle.vx_dtype.specs.Texts.{ty_text, nullability_text}
use Rattle.vx_dtype.specs.Texts as comparisons
use Rattle.vx_expr.specs.OperatorTexts.{operator_text}
use Rattle.vx_expr.specs.SelectionTexts.{selection_text}
use Rattle.vx_expr.specs.Trees.{Tree, root, literal, get_item, binary, not_of, is_null_of, like, between, cast}
use Rattle.vx_expr.specs.Trees.{list_contains, pack, merge, select, dynamic, Trees, no_trees, tree}

-- the comparison between a bound and the value, with a space on each side
abbrev pub bound_text : StrictComparison → Bytes
bound_text strictness = codes " " ++ (comparisons.operator_text (bound_operator strictness) ++ codes " ")

unfoldable mutual
  -- the text that Display writes
  pub compact_text : Tree → Bytes
  compact_text root = codes "$"
  compact_text (literal s) = scalar_text s.value s.ty
  compact_text (get_item f e) = compact_text e ++ (codes "." ++ f)
  compact_text (binary l op r) =
      codes "(" ++ (compact_text l ++ (codes " " ++ (operator_text op ++ (codes " " ++ (compact_text r ++ codes ")")))))
  compact_text (not_of e) = codes "(!" ++ (compact_text e ++ codes ")")
  compact_text (is_null_of e) = codes "is_null(" ++ (compact_text e ++ codes ")")
  compact_text (like e p negated fold_case) = compact_text e ++ (codes " LIKE " ++ compact_text p)
  compact_text (between e lower upper options) =
      codes "(" ++ (compact_text lower ++ (bound_text options.lower_strict
      ++ (compact_text e ++ (bound_text options.upper_strict ++ (compact_text upper ++ codes ")")))))
  compact_text (cast e t) = codes "cast(" ++ (compact_text e ++ (codes ", " ++ (ty_text t ++ codes ")")))
  compact_text (list_contains l v) = codes "contains(" ++ (compact_text l ++ (codes ", " ++ (compact_text v ++ codes ")")))
  compact_text (pack names es n) = codes "pack(" ++ (named_texts [] names es ++ (codes ")" ++ nullability_text n))
  compact_text (merge es n) = codes "merge(" ++ (listed_texts [] es ++ (codes ")" ++ nullability_text n))
  compact_text (select s e) = compact_text e ++ selection_text s
  compact_text (dynamic e op k t default) =
      compact_text e ++ (codes " " ++ (comparisons.operator_text op ++ (codes " dynamic(" ++ (ty_text t ++ codes ")"))))

  -- the texts of a list, the first behind the separator, each other one behind `, `
  pub listed_texts : Bytes → Trees → Bytes
  listed_texts separator no_trees = []
  listed_texts separator (tree e es) = separator ++ (compact_text e ++ listed_texts (codes ", ") es)

  -- the same with a name before each, as far as both lists go
  pub named_texts : Bytes → List Bytes → Trees → Bytes
  named_texts separator (f ∷ names) (tree e es) = separator ++ (f ++ (codes ": " ++ (compact_text e ++ named_texts (codes ", ") names es)))
  named_texts separator _ _ = []

-- The nodes of an expression from the leaves up.
use Rattle.std.specs.Prelude.{List, [], ◌∷◌, ◌++◌}
use Rattle.vx_expr.specs.Trees.{Tree, root, literal, get_item, binary, not_of, is_null_of, like, between, cast, list_contains, pack, merge, select, dynamic}
use Rattle.vx_expr.specs.Trees.{Trees, no_trees, tree}

unfoldable mutual
  -- the nodes of an expression, each after those below it, children in order
  pub post_order : Tree → List Tree
  post_order root = root ∷ []
  post_order (literal s) = literal s ∷ []
  post_order (get_item f e) = post_order e ++ get_item f e ∷ []
  post_order (binary l op r) = post_order l ++ (post_order r ++ binary l op r ∷ [])
  post_order (not_of e) = post_order e ++ not_of e ∷ []
  post_order (is_null_of e) = post_order e ++ is_null_of e ∷ []
  post_order (like e p negated fold_case) = post_order e ++ (post_order p ++ like e p negated fold_case ∷ [])
  post_order (between e lower upper options) = post_order e ++ (post_order lower ++ (post_order upper ++ between e lower upper options ∷ []))
  post_order (cast e t) = post_order e ++ cast e t ∷ []
  post_order (list_contains l v) = post_order l ++ (post_order v ++ list_contains l v ∷ [])
  post_order (pack names es n) = post_order_all es ++ pack names es n ∷ []
  post_order (merge es n) = post_order_all es ++ merge es n ∷ []
  post_order (select s e) = post_order e ++ select s e ∷ []
  post_order (dynamic e op k t default) = post_order e ++ dynamic e op k t default ∷ []

  -- the nodes of the expressions of a list
  pub post_order_all : Trees → List Tree
  post_order_all no_trees = []
  post_order_all (tree e es) = post_order e ++ post_order_all es

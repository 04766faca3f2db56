-- Expressions as nodes: their height, and the node with other children.
use Rattle.std.proofs.Common.{◌≡◌, ℕ, ◌+◌, max, List}
use Rattle.std.specs.Prelude.{Some}
use Rattle.vx_expr.specs.Trees.{Tree, root, literal, get_item, binary, not_of, is_null_of, like, between, cast, list_contains, pack, merge, select}
use Rattle.vx_expr.specs.Trees.{dynamic, Trees, no_trees, tree}
use Rattle.vx_expr.specs.Children.{with_children_of}

abbrev mutual
  -- 1 without children, else one more than the greatest height of a child
  pub node_height : Tree → ℕ
  node_height root = 1
  node_height (literal s) = 1
  node_height (get_item f e) = 1 + node_height e
  node_height (binary l op r) = 1 + max (node_height l) (node_height r)
  node_height (not_of e) = 1 + node_height e
  node_height (is_null_of e) = 1 + node_height e
  node_height (like e p negated fold_case) = 1 + max (node_height e) (node_height p)
  node_height (between e lower upper options) = 1 + max (node_height e) (max (node_height lower) (node_height upper))
  node_height (cast e t) = 1 + node_height e
  node_height (list_contains l v) = 1 + max (node_height l) (node_height v)
  node_height (pack names es n) = 1 + highest_node es
  node_height (merge es n) = 1 + highest_node es
  node_height (select s e) = 1 + node_height e
  node_height (dynamic e op k t default) = 1 + node_height e

  -- the greatest height of these expressions, 0 where there is none
  pub highest_node : Trees → ℕ
  highest_node no_trees = 0
  highest_node (tree e es) = max (node_height e) (highest_node es)

-- the node with these children in place of its own is this one
abbrev pub IsWithChildren : Tree → List Tree → Tree → Type 0
IsWithChildren e cs rebuilt = with_children_of e cs ≡ Some rebuilt

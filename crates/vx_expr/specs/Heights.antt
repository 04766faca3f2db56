-- For the checker: no public clause cites this.
-- How high an expression is: a node is higher than each of its children, so recursions over expressions end.
use Rattle.std.specs.Prelude.{ℕ, ◌+◌, ◌*◌, ◌≤◌, max, List, [], ◌∷◌}
use Rattle.std.proofs.Common.{arith}
use denote.Param.Weighed.{most}
use Rattle.vx_expr.specs.Trees.{Tree, root, literal, get_item, binary, not_of, is_null_of, like, between, cast}
use Rattle.vx_expr.specs.Trees.{list_contains, pack, merge, select, dynamic, Trees, no_trees, tree, trees_of}
use Rattle.vx_expr.specs.Packed.{Packed}

abbrev mutual
  -- the number of edges from the node down to its farthest leaf, where a list of expressions counts as an edge
  pub height : Tree → ℕ
  height root = 0
  height (literal s) = 0
  height (get_item f e) = 1 + height e
  height (binary l op r) = 1 + max (height l) (height r)
  height (not_of e) = 1 + height e
  height (is_null_of e) = 1 + height e
  height (like e p negated fold_case) = 1 + max (height e) (height p)
  height (between e lower upper options) = 1 + max (height e) (max (height lower) (height upper))
  height (cast e t) = 1 + height e
  height (list_contains l v) = 1 + max (height l) (height v)
  height (pack names es n) = 1 + highest es
  height (merge es n) = 1 + highest es
  height (select s e) = 1 + height e
  height (dynamic e op k t default) = 1 + height e

  -- the height of the highest of these expressions, 0 where there is none
  pub highest : Trees → ℕ
  highest no_trees = 0
  highest (tree e es) = max (height e) (highest es)

-- no expression of a list is higher than the highest
pub most_le-highest : (es : List Tree) → most (λ e. 2 * height e + 1) es ≤ 2 * highest (trees_of es) + 1
most_le-highest [] = omega arith
most_le-highest (e ∷ es) = omega (arith, most_le-highest es)

-- a number above that of each value and below that of the expression that makes the struct
abbrev pub packed_size : Packed → ℕ
packed_size p = 2 * highest (trees_of p.values) + 1

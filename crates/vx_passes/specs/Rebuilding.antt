-- A pass from the leaves up: each node is made anew by a step, after its children.
use Rattle.std.specs.Prelude.{Result, Ok}
use Rattle.vx_expr.specs.Trees.{Tree, root, literal, get_item, binary, not_of, is_null_of, like, between, cast, list_contains, pack, merge, select, dynamic, Trees, no_trees, tree}
use Rattle.vx_semantics.specs.Typing.{Refusal, and_then}

unfoldable mutual
  -- what the step makes of each node, once its children are made; the refusal is the first one in post-order
  pub rebuilt : (Tree → Result Tree Refusal) → Tree → Result Tree Refusal
  rebuilt step root = step root
  rebuilt step (literal s) = step (literal s)
  rebuilt step (get_item f e) = and_then (rebuilt step e) (λ d. step (get_item f d))
  rebuilt step (binary l op r) = and_then (rebuilt step l) (λ a. and_then (rebuilt step r) (λ b. step (binary a op b)))
  rebuilt step (not_of e) = and_then (rebuilt step e) (λ d. step (not_of d))
  rebuilt step (is_null_of e) = and_then (rebuilt step e) (λ d. step (is_null_of d))
  rebuilt step (like e p negated fold_case) =
      and_then (rebuilt step e) (λ d. and_then (rebuilt step p) (λ q. step (like d q negated fold_case)))
  rebuilt step (between e lower upper options) =
      and_then (rebuilt step e) (λ d. and_then (rebuilt step lower) (λ a. and_then (rebuilt step upper) (λ b. step (between d a b options))))
  rebuilt step (cast e t) = and_then (rebuilt step e) (λ d. step (cast d t))
  rebuilt step (list_contains l v) = and_then (rebuilt step l) (λ a. and_then (rebuilt step v) (λ b. step (list_contains a b)))
  rebuilt step (pack names es n) = and_then (all_rebuilt step es) (λ ds. step (pack names ds n))
  rebuilt step (merge es n) = and_then (all_rebuilt step es) (λ ds. step (merge ds n))
  rebuilt step (select s e) = and_then (rebuilt step e) (λ d. step (select s d))
  rebuilt step (dynamic e op k t default) = and_then (rebuilt step e) (λ d. step (dynamic d op k t default))

  -- the same of each expression of a list
  pub all_rebuilt : (Tree → Result Tree Refusal) → Trees → Result Trees Refusal
  all_rebuilt step no_trees = Ok no_trees
  all_rebuilt step (tree e es) = and_then (rebuilt step e) (λ d. and_then (all_rebuilt step es) (λ ds. Ok (tree d ds)))

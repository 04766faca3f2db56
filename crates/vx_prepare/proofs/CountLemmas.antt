-- Nodes from the leaves up are as many as nodes from the root down.
use Rattle.std.proofs.Common.{◌≡◌, ◌+◌, List, [], ◌∷◌, ◌++◌, length, map, refl, ap, ◌∙◌, sym, length-append, arith}
use Rattle.std.proofs.lemmas.List.{length-map}
use Rattle.vx_expr.specs.PostOrders.{post_order, post_order_all}
use Rattle.vx_expr.specs.Trees.{Tree, root, literal, get_item, binary, not_of, is_null_of, like, between, cast, list_contains, pack, merge, select, dynamic}
use Rattle.vx_expr.specs.Trees.{Trees, no_trees, tree}
use Rattle.vx_semantics.specs.Nodes.{nodes_of, nodes_of_all}

one_more : (e n : Tree) → length (post_order e) ≡ length (nodes_of e) → length (post_order e ++ n ∷ []) ≡ length (n ∷ nodes_of e)
one_more e n h = omega (arith, length-append (post_order e) (n ∷ []), h)

two_more : (d e n : Tree) → length (post_order d) ≡ length (nodes_of d) → length (post_order e) ≡ length (nodes_of e)
    → length (post_order d ++ (post_order e ++ n ∷ [])) ≡ length (n ∷ (nodes_of d ++ nodes_of e))
two_more d e n h k =
    omega (arith, length-append (post_order d) (post_order e ++ n ∷ []), length-append (post_order e) (n ∷ []), length-append (nodes_of d) (nodes_of e), h, k)

three_more : (c d e n : Tree) → length (post_order c) ≡ length (nodes_of c) → length (post_order d) ≡ length (nodes_of d) → length (post_order e) ≡ length (nodes_of e)
    → length (post_order c ++ (post_order d ++ (post_order e ++ n ∷ []))) ≡ length (n ∷ (nodes_of c ++ (nodes_of d ++ nodes_of e)))
three_more c d e n h k l =
    omega (
      arith,
      length-append (post_order c) (post_order d ++ (post_order e ++ n ∷ [])),
      two_more d e n k l,
      length-append (nodes_of c) (nodes_of d ++ nodes_of e),
      h,
    )

all_more : (es : Trees) (n : Tree) → length (post_order_all es) ≡ length (nodes_of_all es) → length (post_order_all es ++ n ∷ []) ≡ length (n ∷ nodes_of_all es)
all_more es n h = omega (arith, length-append (post_order_all es) (n ∷ []), h)

mutual
  unfolding post_order nodes_of

  -- the nodes of an expression, in either order
  pub as_many : (e : Tree) → length (post_order e) ≡ length (nodes_of e)
  as_many root = refl
  as_many (literal s) = refl
  as_many (get_item f e) = one_more e (get_item f e) (as_many e)
  as_many (binary l op r) = two_more l r (binary l op r) (as_many l) (as_many r)
  as_many (not_of e) = one_more e (not_of e) (as_many e)
  as_many (is_null_of e) = one_more e (is_null_of e) (as_many e)
  as_many (like e p negated fold_case) = two_more e p (like e p negated fold_case) (as_many e) (as_many p)
  as_many (between e lower upper options) = three_more e lower upper (between e lower upper options) (as_many e) (as_many lower) (as_many upper)
  as_many (cast e t) = one_more e (cast e t) (as_many e)
  as_many (list_contains l v) = two_more l v (list_contains l v) (as_many l) (as_many v)
  as_many (pack names es n) = all_more es (pack names es n) (all_as_many es)
  as_many (merge es n) = all_more es (merge es n) (all_as_many es)
  as_many (select s e) = one_more e (select s e) (as_many e)
  as_many (dynamic e op k t default) = one_more e (dynamic e op k t default) (as_many e)

  -- and those of the expressions of a list
  all_as_many : (es : Trees) → length (post_order_all es) ≡ length (nodes_of_all es)
  all_as_many no_trees = refl
  all_as_many (tree e es) = omega (arith, length-append (post_order e) (post_order_all es), length-append (nodes_of e) (nodes_of_all es), as_many e, all_as_many es)

-- a list that is seen as the nodes from the leaves up has as many elements
pub counted : {A : Type 0} (f : A → Tree) (nodes : List A) (e : Tree) → map f nodes ≡ post_order e → length nodes ≡ length (nodes_of e)
counted f nodes e h = sym (length-map nodes f) ∙ ap length h ∙ as_many e

-- An expression has a text where none of its nodes is a dynamic comparison.
use Rattle.std.proofs.Common.{◌≡◌, refl, ap, sym, ◌∙◌, subst, Bool, ◌&&◌, not, [], ◌∷◌}
use Rattle.std.specs.List.{list_all}
use Rattle.std.proofs.Math.Bool.{and-true, and_comm}
use Rattle.std.proofs.lemmas.List.Folds.{list_all-append}
use Rattle.vx_expr.specs.PostOrders.{post_order, post_order_all}
use Rattle.vx_expr.specs.Trees.{Tree, Trees, no_trees, tree, trees_of, listed, root, literal, get_item, binary, not_of, is_null_of, like, between, cast, list_contains, pack, merge, select, dynamic, children_of}
use Rattle.vx_expr.proofs.PostOrderLemmas.{node_last}
use Rattle.vx_expr.proofs.TreeLemmas.{trees_of_listed}
use Rattle.vx_text.specs.Writing.{is_writable, all_writable}
use Rattle.vx_text.specs.WritingParts.{is_dynamic}

-- a node that is no dynamic comparison
abbrev pub is_static : Tree → Bool
is_static e = not (is_dynamic e)

writable_split : (e : Tree) → is_writable e ≡ (is_static e && all_writable (trees_of (children_of e)))
unfolding is_writable
writable_split root = refl
writable_split (literal s) = refl
writable_split (get_item f e) = sym (and-true (is_writable e))
writable_split (binary l op r) = ap (λ b. is_writable l && b) (sym (and-true (is_writable r)))
writable_split (not_of e) = sym (and-true (is_writable e))
writable_split (is_null_of e) = sym (and-true (is_writable e))
writable_split (like e p negated fold_case) = ap (λ b. is_writable e && b) (sym (and-true (is_writable p)))
writable_split (between e lower upper options) = ap (λ b. is_writable e && (is_writable lower && b)) (sym (and-true (is_writable upper)))
writable_split (cast e t) = sym (and-true (is_writable e))
writable_split (list_contains l v) = ap (λ b. is_writable l && b) (sym (and-true (is_writable v)))
writable_split (pack names es n) = ap all_writable (sym (trees_of_listed es))
writable_split (merge es n) = ap all_writable (sym (trees_of_listed es))
writable_split (select s e) = sym (and-true (is_writable e))
writable_split (dynamic e op k t default) = refl

-- whether the expressions of a list have texts, by the first and the others
one_more : (e : Tree) (es : Trees) → is_writable e ≡ list_all is_static (post_order e) → list_all is_static (post_order_all es) ≡ all_writable es
    → list_all is_static (post_order_all (tree e es)) ≡ all_writable (tree e es)
unfolding is_writable post_order
one_more e es first others =
    list_all-append is_static (post_order e) (post_order_all es) ∙ ap (λ b. b && list_all is_static (post_order_all es)) (sym first) ∙ ap (λ b. is_writable e && b) others

by_nodes_as : (ds es : Trees) → ds ≡ es → list_all is_static (post_order_all es) ≡ all_writable es → list_all is_static (post_order_all ds) ≡ all_writable ds
by_nodes_as ds es same h = subst (λ cs. list_all is_static (post_order_all cs) ≡ all_writable cs) (sym same) h

-- whether an expression has one, by its children
whole : (e : Tree) → list_all is_static (post_order_all (trees_of (children_of e))) ≡ all_writable (trees_of (children_of e)) → is_writable e ≡ list_all is_static (post_order e)
whole e h =
    let own = is_static e in
    let below = trees_of (children_of e) in
    writable_split e ∙ and_comm own (all_writable below) ∙ ap (λ b. b && own) (sym h) ∙ ap (λ b. list_all is_static (post_order_all below) && b) (sym (and-true own))
    ∙ sym (list_all-append is_static (post_order_all below) (e ∷ [])) ∙ ap (list_all is_static) (sym (node_last e))

mutual
  unfolding is_writable post_order

  -- an expression has a text where each of its nodes is static
  pub writable_by_nodes : (e : Tree) → is_writable e ≡ list_all is_static (post_order e)
  writable_by_nodes root = whole root refl
  writable_by_nodes (literal s) = whole (literal s) refl
  writable_by_nodes (get_item f e) = whole (get_item f e) (one_more e no_trees (writable_by_nodes e) refl)
  writable_by_nodes (binary l op r) = whole (binary l op r) (one_more l (tree r no_trees) (writable_by_nodes l) (one_more r no_trees (writable_by_nodes r) refl))
  writable_by_nodes (not_of e) = whole (not_of e) (one_more e no_trees (writable_by_nodes e) refl)
  writable_by_nodes (is_null_of e) = whole (is_null_of e) (one_more e no_trees (writable_by_nodes e) refl)
  writable_by_nodes (like e p negated fold_case) = whole (like e p negated fold_case) (one_more e (tree p no_trees) (writable_by_nodes e) (one_more p no_trees (writable_by_nodes p) refl))
  writable_by_nodes (between e lower upper options) =
      whole (between e lower upper options)
      (one_more e (tree lower (tree upper no_trees)) (writable_by_nodes e) (one_more lower (tree upper no_trees) (writable_by_nodes lower) (one_more upper no_trees (writable_by_nodes upper) refl)))
  writable_by_nodes (cast e t) = whole (cast e t) (one_more e no_trees (writable_by_nodes e) refl)
  writable_by_nodes (list_contains l v) = whole (list_contains l v) (one_more l (tree v no_trees) (writable_by_nodes l) (one_more v no_trees (writable_by_nodes v) refl))
  writable_by_nodes (pack names es n) = whole (pack names es n) (by_nodes_as (trees_of (listed es)) es (trees_of_listed es) (all_writable_by_nodes es))
  writable_by_nodes (merge es n) = whole (merge es n) (by_nodes_as (trees_of (listed es)) es (trees_of_listed es) (all_writable_by_nodes es))
  writable_by_nodes (select s e) = whole (select s e) (one_more e no_trees (writable_by_nodes e) refl)
  writable_by_nodes (dynamic e op k t default) = whole (dynamic e op k t default) (one_more e no_trees (writable_by_nodes e) refl)

  -- the same of a list of expressions
  all_writable_by_nodes : (es : Trees) → list_all is_static (post_order_all es) ≡ all_writable es
  all_writable_by_nodes no_trees = refl
  all_writable_by_nodes (tree e es) = one_more e es (writable_by_nodes e) (all_writable_by_nodes es)

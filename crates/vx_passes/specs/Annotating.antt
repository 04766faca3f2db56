-- Annotations: which of them an expression and those below it have, as a map keyed by equal expressions.
-- `same` tells equal annotations, `annotate` gives those of a node itself.
use Rattle.std.specs.Prelude.{Bool, cond, List, [], ◌∷◌, ◌++◌}
use Rattle.std.specs.List.{list_any, flat_map}
use Rattle.vx_dtype.specs.Types.{Bytes, Ty}
use Rattle.vx_expr.specs.Equal.{tree_eq}
use Rattle.vx_expr.specs.Trees.{Tree, root, literal, get_item, binary, not_of, is_null_of, like, between, cast, list_contains, pack, merge, select, dynamic}
use Rattle.vx_expr.specs.Trees.{Trees, no_trees, tree, children_of}
use Rattle.vx_semantics.specs.Typing.{names_in}

-- an expression and the set of its annotations, each once, in the order in which they came
pub record Entry (A : Type 0) : Type 0 where
  pub expression : Tree
  pub annotations : List A

-- the annotations with those of the others that are not among them
abbrev pub joined_sets : {A : Type 0} → (A → A → Bool) → List A → List A → List A
joined_sets same xs [] = xs
joined_sets same xs (y ∷ ys) = cond (list_any (same y) xs) (joined_sets same xs ys) (joined_sets same (xs ++ y ∷ []) ys)

-- the annotations of the entry of an expression; none where it has no entry
abbrev pub entry_of : {A : Type 0} → Tree → List (Entry A) → List A
entry_of e [] = []
entry_of e (x ∷ xs) = cond (tree_eq e x.expression) x.annotations (entry_of e xs)

-- the map in which the entry of an expression has these annotations too; an entry is made where there was none
abbrev pub with_annotations : {A : Type 0} → (A → A → Bool) → Tree → List A → List (Entry A) → List (Entry A)
with_annotations same e ys [] = record { expression = e; annotations = joined_sets same [] ys } ∷ []
with_annotations same e ys (x ∷ xs) =
    cond (tree_eq e x.expression)
    (record { expression = x.expression; annotations = joined_sets same x.annotations ys } ∷ xs)
    (x ∷ with_annotations same e ys xs)

-- on the way down: a node that has annotations itself gets them, and its children are skipped; else the children are visited
abbrev pub annotated_down :
    {A : Type 0} → (A → A → Bool) → Tree → List A → (List (Entry A) → List (Entry A)) → List (Entry A) → List (Entry A)
annotated_down same e [] visit_children m = visit_children m
annotated_down same e (y ∷ ys) visit_children m = with_annotations same e (y ∷ ys) m

-- on the way up, also after a skip: the node gets what its children's entries hold at that moment
abbrev pub annotated_up : {A : Type 0} → (A → A → Bool) → Tree → List (Entry A) → List (Entry A)
annotated_up same e m = with_annotations same e (flat_map (λ c. entry_of c m) (children_of e)) m

-- down and up at one node
abbrev pub annotated_node :
    {A : Type 0} → (A → A → Bool) → (Tree → List A) → Tree → (List (Entry A) → List (Entry A)) → List (Entry A) → List (Entry A)
annotated_node same annotate e visit_children m = annotated_up same e (annotated_down same e (annotate e) visit_children m)

unfoldable mutual
  -- the map after a visit of an expression
  pub annotated_from : {A : Type 0} → (A → A → Bool) → (Tree → List A) → Tree → List (Entry A) → List (Entry A)
  annotated_from same annotate root m = annotated_node same annotate root (λ k. k) m
  annotated_from same annotate (literal s) m = annotated_node same annotate (literal s) (λ k. k) m
  annotated_from same annotate (get_item f e) m = annotated_node same annotate (get_item f e) (annotated_from same annotate e) m
  annotated_from same annotate (binary l op r) m =
      annotated_node same annotate (binary l op r) (λ k. annotated_from same annotate r (annotated_from same annotate l k)) m
  annotated_from same annotate (not_of e) m = annotated_node same annotate (not_of e) (annotated_from same annotate e) m
  annotated_from same annotate (is_null_of e) m = annotated_node same annotate (is_null_of e) (annotated_from same annotate e) m
  annotated_from same annotate (like e p negated fold_case) m =
      annotated_node same annotate (like e p negated fold_case) (λ k. annotated_from same annotate p (annotated_from same annotate e k)) m
  annotated_from same annotate (between e lower upper options) m =
      annotated_node same annotate (between e lower upper options)
      (λ k. annotated_from same annotate upper (annotated_from same annotate lower (annotated_from same annotate e k))) m
  annotated_from same annotate (cast e t) m = annotated_node same annotate (cast e t) (annotated_from same annotate e) m
  annotated_from same annotate (list_contains l v) m =
      annotated_node same annotate (list_contains l v) (λ k. annotated_from same annotate v (annotated_from same annotate l k)) m
  annotated_from same annotate (pack names es n) m = annotated_node same annotate (pack names es n) (all_annotated_from same annotate es) m
  annotated_from same annotate (merge es n) m = annotated_node same annotate (merge es n) (all_annotated_from same annotate es) m
  annotated_from same annotate (select s e) m = annotated_node same annotate (select s e) (annotated_from same annotate e) m
  annotated_from same annotate (dynamic e op k t default) m =
      annotated_node same annotate (dynamic e op k t default) (annotated_from same annotate e) m

  -- the map after a visit of each expression of a list
  pub all_annotated_from : {A : Type 0} → (A → A → Bool) → (Tree → List A) → Trees → List (Entry A) → List (Entry A)
  all_annotated_from same annotate no_trees m = m
  all_annotated_from same annotate (tree e es) m = all_annotated_from same annotate es (annotated_from same annotate e m)

-- the annotations of an expression and of all that were visited below it
abbrev pub annotated : {A : Type 0} → (A → A → Bool) → (Tree → List A) → Tree → List (Entry A)
annotated same annotate e = annotated_from same annotate e []

-- the columns of a scope's type that a node touches itself: a field of the row its name, the row all of them, any other node none
abbrev pub column_annotation : Ty → Tree → List Bytes
column_annotation t (get_item f root) = f ∷ []
column_annotation t root = names_in t
column_annotation t _ = []

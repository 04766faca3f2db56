-- An expression's type and nodes, by its own node and by its children.
use Rattle.std.proofs.Common.{◌≡◌, ℕ, zero, suc, Bool, true, List, [], ◌∷◌, ◌++◌, Some, Result, Ok, Err, refl, ap, sym, ◌∙◌, append-nil}
use Rattle.std.specs.Result.{is_ok}
use Rattle.std.specs.List.{list_any, slice_get}
use Rattle.std.proofs.lemmas.Option.{same_Some, none-some}
use Rattle.std.proofs.lemmas.List.Folds.{list_any-append}
use Rattle.vx_dtype.specs.declared.Nullability.TheVariants.{NonNullable}
use Rattle.vx_dtype.specs.Types.{Ty, bool_ty}
use Rattle.vx_expr.specs.Trees.{Tree, root, literal, get_item, binary, not_of, is_null_of, like, between, cast, list_contains, pack, merge, select, dynamic}
use Rattle.vx_expr.specs.Trees.{Trees, trees_of, listed, children_of}
use Rattle.vx_expr.proofs.TreeLemmas.{trees_of_listed}
use Rattle.vx_semantics.specs.Typing.{Refusal, and_then, typed_of, all_typed, item_type, binary_type, not_type, like_type, between_type, cast_type, contains_type, pack_type, merge_type, select_type, dynamic_type}
use Rattle.vx_semantics.specs.Nodes.{nodes_of, nodes_of_all}
use Rattle.vx_typing.proofs.SlotLemmas.{below}
use Rattle.vx_eval.proofs.FaultLemmas.{or_left, or_right}

-- ---- types

first_ok : (a : Result (List Ty) Refusal) (rule : List Ty → Result Ty Refusal) → is_ok (and_then a rule) ≡ true → is_ok a ≡ true
first_ok (Ok ts) rule h = refl
first_ok (Err r) rule h = h

one_below : (a : Result Ty Refusal) (rule : Ty → Result Ty Refusal) → is_ok (and_then a rule) ≡ true → is_ok (and_then a (λ t. Ok (t ∷ []))) ≡ true
one_below (Ok t) rule h = refl
one_below (Err r) rule h = h

two_below : (a b : Result Ty Refusal) (rule : Ty → Ty → Result Ty Refusal) → is_ok (and_then a (λ t. and_then b (rule t))) ≡ true
    → is_ok (and_then a (λ t. and_then (and_then b (λ u. Ok (u ∷ []))) (λ ts. Ok (t ∷ ts)))) ≡ true
two_below (Ok t) (Ok u) rule h = refl
two_below (Ok t) (Err r) rule h = h
two_below (Err r) b rule h = h

three_below : (a b c : Result Ty Refusal) (rule : Ty → Ty → Ty → Result Ty Refusal) → is_ok (and_then a (λ t. and_then b (λ u. and_then c (rule t u)))) ≡ true
    → is_ok (and_then a (λ t. and_then (and_then b (λ u. and_then (and_then c (λ v. Ok (v ∷ []))) (λ ts. Ok (u ∷ ts)))) (λ ts. Ok (t ∷ ts)))) ≡ true
three_below (Ok t) (Ok u) (Ok v) rule h = refl
three_below (Ok t) (Ok u) (Err r) rule h = h
three_below (Ok t) (Err r) c rule h = h
three_below (Err r) b c rule h = h

list_below : (t : Ty) (es : Trees) (rule : List Ty → Result Ty Refusal) → is_ok (and_then (all_typed t es) rule) ≡ true → is_ok (all_typed t (trees_of (listed es))) ≡ true
list_below t es rule h = ap (λ ds. is_ok (all_typed t ds)) (trees_of_listed es) ∙ first_ok (all_typed t es) rule h

typed_below : (t : Ty) (e : Tree) → is_ok (typed_of t e) ≡ true → is_ok (all_typed t (below e)) ≡ true
unfolding typed_of
typed_below t root h = refl
typed_below t (literal s) h = refl
typed_below t (get_item f e) h = one_below (typed_of t e) (item_type f) h
typed_below t (binary l op r) h = two_below (typed_of t l) (typed_of t r) (binary_type op) h
typed_below t (not_of e) h = one_below (typed_of t e) not_type h
typed_below t (is_null_of e) h = one_below (typed_of t e) (λ a. Ok (bool_ty NonNullable)) h
typed_below t (like e p negated fold_case) h = two_below (typed_of t e) (typed_of t p) like_type h
typed_below t (between e lower upper options) h = three_below (typed_of t e) (typed_of t lower) (typed_of t upper) between_type h
typed_below t (cast e target) h = one_below (typed_of t e) (cast_type target) h
typed_below t (list_contains l v) h = two_below (typed_of t l) (typed_of t v) contains_type h
typed_below t (pack names es n) h = list_below t es (pack_type names n) h
typed_below t (merge es n) h = list_below t es (merge_type n) h
typed_below t (select s e) h = one_below (typed_of t e) (select_type s) h
typed_below t (dynamic e op k slot default) h = one_below (typed_of t e) (dynamic_type slot) h

first_typed : (a : Result Ty Refusal) (all : Result (List Ty) Refusal) → is_ok (and_then a (λ t. and_then all (λ ts. Ok (t ∷ ts)))) ≡ true → (is_ok a ≡ true) × (is_ok all ≡ true)
first_typed (Ok t) (Ok ts) h = (refl, refl)
first_typed (Ok t) (Err r) h = (refl, h)
first_typed (Err r) all h = absurd cc

typed_at : (t : Ty) (es : List Tree) (i : ℕ) (d : Tree) → slice_get es i ≡ Some d → is_ok (all_typed t (trees_of es)) ≡ true → is_ok (typed_of t d) ≡ true
unfolding typed_of
typed_at t [] i d at h = absurd (none-some d at)
typed_at t (e ∷ es) zero d at h = ap (λ x. is_ok (typed_of t x)) (sym (same_Some e d at)) ∙ (first_typed (typed_of t e) (all_typed t (trees_of es)) h).0
typed_at t (e ∷ es) (suc i) d at h = typed_at t es i d at (first_typed (typed_of t e) (all_typed t (trees_of es)) h).1

-- where an expression is typed, a child is
pub type_of_child : (t : Ty) (e d : Tree) (i : ℕ) → slice_get (children_of e) i ≡ Some d → is_ok (typed_of t e) ≡ true → is_ok (typed_of t d) ≡ true
type_of_child t e d i at h = typed_at t (children_of e) i d at (typed_below t e h)

-- ---- nodes

one_node : (n e : Tree) → n ∷ nodes_of e ≡ n ∷ (nodes_of e ++ [])
one_node n e = ap (λ ns. n ∷ ns) (sym (append-nil (nodes_of e)))

two_nodes : (n d e : Tree) → n ∷ (nodes_of d ++ nodes_of e) ≡ n ∷ (nodes_of d ++ (nodes_of e ++ []))
two_nodes n d e = ap (λ ns. n ∷ (nodes_of d ++ ns)) (sym (append-nil (nodes_of e)))

listed_nodes : (n : Tree) (es : Trees) → n ∷ nodes_of_all es ≡ n ∷ nodes_of_all (trees_of (listed es))
listed_nodes n es = ap (λ ds. n ∷ nodes_of_all ds) (sym (trees_of_listed es))

-- an expression's own node, and those of its children
pub nodes_split : (e : Tree) → nodes_of e ≡ e ∷ nodes_of_all (below e)
unfolding nodes_of
nodes_split root = refl
nodes_split (literal s) = refl
nodes_split (get_item f e) = one_node (get_item f e) e
nodes_split (binary l op r) = two_nodes (binary l op r) l r
nodes_split (not_of e) = one_node (not_of e) e
nodes_split (is_null_of e) = one_node (is_null_of e) e
nodes_split (like e p negated fold_case) = two_nodes (like e p negated fold_case) e p
nodes_split (between e lower upper options) =
    ap (λ ns. between e lower upper options ∷ (nodes_of e ++ (nodes_of lower ++ ns))) (sym (append-nil (nodes_of upper)))
nodes_split (cast e t) = one_node (cast e t) e
nodes_split (list_contains l v) = two_nodes (list_contains l v) l v
nodes_split (pack names es n) = listed_nodes (pack names es n) es
nodes_split (merge es n) = listed_nodes (merge es n) es
nodes_split (select s e) = one_node (select s e) e
nodes_split (dynamic e op k t default) = one_node (dynamic e op k t default) e

module _ (test : Tree → Bool) where
  nodes_at : (es : List Tree) (i : ℕ) (d : Tree) → slice_get es i ≡ Some d → list_any test (nodes_of d) ≡ true → list_any test (nodes_of_all (trees_of es)) ≡ true
  unfolding nodes_of
  nodes_at [] i d at h = absurd (none-some d at)
  nodes_at (e ∷ es) zero d at h =
      list_any-append test (nodes_of e) (nodes_of_all (trees_of es))
      ∙ or_left (list_any test (nodes_of e)) (list_any test (nodes_of_all (trees_of es))) (ap (λ x. list_any test (nodes_of x)) (same_Some e d at) ∙ h)
  nodes_at (e ∷ es) (suc i) d at h =
      list_any-append test (nodes_of e) (nodes_of_all (trees_of es))
      ∙ or_right (list_any test (nodes_of e)) (list_any test (nodes_of_all (trees_of es))) (nodes_at es i d at h)

  -- where a node of a child passes a test, one of the expression does
  pub node_of_child : (e d : Tree) (i : ℕ) → slice_get (children_of e) i ≡ Some d → list_any test (nodes_of d) ≡ true → list_any test (nodes_of e) ≡ true
  node_of_child e d i at h =
      ap (list_any test) (nodes_split e) ∙ or_right (test e) (list_any test (nodes_of_all (below e))) (nodes_at (children_of e) i d at h)

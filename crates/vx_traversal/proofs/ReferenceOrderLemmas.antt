-- The names of the nodes of an expression, from the leaves up, are the names that it refers to.
use Rattle.std.proofs.Common.{◌≡◌, ℕ, zero, suc, List, [], ◌∷◌, ◌++◌, Bool, true, false, ◌||◌, refl, ap, sym, ◌∙◌, subst, ◌+◌, ◌<◌, ◌≤◌, arith, drop, length, map}
use Rattle.std.specs.Prelude.{Some, slice_get, Contains}
use Rattle.std.specs.List.{flat_map}
use Rattle.std.specs.HashSet.{HashSet}
use Rattle.std.specs.Str.{bytes_eq}
use Rattle.std.proofs.lemmas.Grind.{flat_map-append}
use Rattle.std.proofs.lemmas.List.{append-nil}
use Rattle.std.proofs.lemmas.List.Folds.{list_any-append}
use Rattle.vx_dtype.specs.Types.{Bytes}
use Rattle.vx_dtype.specs.TypeRules.{has_name}
use Rattle.vx_expr.specs.PostOrders.{post_order, post_order_all}
use Rattle.vx_expr.specs.Trees.{Tree, trees_of, children_of}
use Rattle.vx_expr.proofs.PostOrderLemmas.{node_last}
use Rattle.vx_traversal.specs.Expressions.{node_height}
use Rattle.vx_traversal.specs.ExpressionLaws.{child_is_lower}
use Rattle.vx_traversal.specs.References.{own_names, reference_names, AddsNames, HasExactly}
use Rattle.vx_traversal.proofs.Steps.{drop-next, drop-past}
use Rattle.vx_traversal.proofs.ReferenceLemmas.{adds-after, adds-none, has-exactly, names_of_node}

or-swap : (a b : Bool) → (a || b) ≡ (b || a)
or-swap true true = refl
or-swap true false = refl
or-swap false true = refl
or-swap false false = refl

-- what each of these expressions' nodes have is what all of them have
each-gathered : (name : Bytes) (cs : List Tree) → ((c : Tree) → Contains cs c → has_name name (flat_map own_names (post_order c)) ≡ has_name name (reference_names c)) →
    has_name name (flat_map own_names (post_order_all (trees_of cs))) ≡ has_name name (flat_map reference_names cs)
unfolding post_order
each-gathered name [] h = refl
each-gathered name (c ∷ cs) h =
    let rest : has_name name (flat_map own_names (post_order_all (trees_of cs))) ≡ has_name name (flat_map reference_names cs) = each-gathered name cs (λ d (k, lt, is). h d (suc k, omega arith, is)) in
    let first : has_name name (flat_map own_names (post_order c)) ≡ has_name name (reference_names c) = h c (0, omega arith, refl) in
    ap (has_name name) (flat_map-append own_names (post_order c) (post_order_all (trees_of cs)))
    ∙ (list_any-append (bytes_eq name) (flat_map own_names (post_order c)) (flat_map own_names (post_order_all (trees_of cs)))
    ∙ (ap (λ b. b || has_name name (flat_map own_names (post_order_all (trees_of cs)))) first
    ∙ (ap (λ b. has_name name (reference_names c) || b) rest
    ∙ sym (list_any-append (bytes_eq name) (reference_names c) (flat_map reference_names cs)))))

-- the nodes' own names are the names that the expression refers to
gathered : (k : ℕ) (e : Tree) → node_height e < k → (name : Bytes) → has_name name (flat_map own_names (post_order e)) ≡ has_name name (reference_names e)
gathered zero e lt name = absurd (omega (arith, lt))
gathered (suc k) e lt name =
    let below : has_name name (flat_map own_names (post_order_all (trees_of (children_of e)))) ≡ has_name name (flat_map reference_names (children_of e)) =
    each-gathered name (children_of e) (λ c is. gathered k c (let low : node_height c < node_height e = child_is_lower e c is in omega (arith, low, lt)) name) in
    ap (λ ns. has_name name (flat_map own_names ns)) (node_last e)
    ∙ (ap (has_name name) (flat_map-append own_names (post_order_all (trees_of (children_of e))) (e ∷ []))
    ∙ (list_any-append (bytes_eq name) (flat_map own_names (post_order_all (trees_of (children_of e)))) (own_names e ++ [])
    ∙ (ap (λ ns. has_name name (flat_map own_names (post_order_all (trees_of (children_of e)))) || has_name name ns) (append-nil (own_names e))
    ∙ (ap (λ b. b || has_name name (own_names e)) below
    ∙ (or-swap (has_name name (flat_map reference_names (children_of e))) (has_name name (own_names e))
    ∙ (sym (list_any-append (bytes_eq name) (own_names e) (flat_map reference_names (children_of e)))
    ∙ ap (has_name name) (names_of_node e)))))))

-- the node at a place, and then the nodes after it
pub adds-node : (nodes : List Tree) (i : ℕ) (e : Tree) (a b after : List Bytes) → slice_get nodes i ≡ Some e → AddsNames (own_names e) a b →
    AddsNames (flat_map own_names (drop (i + 1) nodes)) b after → AddsNames (flat_map own_names (drop i nodes)) a after
adds-node nodes i e a b after at one rest =
    subst (λ ns. AddsNames (flat_map own_names ns) a after) (sym (drop-next nodes i e at)) (adds-after (own_names e) (flat_map own_names (drop (i + 1) nodes)) a b after one rest)

-- past the end nothing is added
pub adds-past : (nodes : List Tree) (i : ℕ) (held : List Bytes) → length nodes ≤ i → AddsNames (flat_map own_names (drop i nodes)) held held
adds-past nodes i held le = subst (λ ns. AddsNames (flat_map own_names ns) held held) (sym (drop-past nodes i le)) (adds-none held)

pub mapped-at : {A B : Type 0} (f : A → B) (xs : List A) (i : ℕ) (x : A) → slice_get xs i ≡ Some x → slice_get (map f xs) i ≡ Some (f x)
mapped-at f [] i x at = cc
mapped-at f (y ∷ ys) zero x at = let same : y ≡ x = cc in ap (λ z. Some (f z)) same
mapped-at f (y ∷ ys) (suc i) x at = mapped-at f ys i x at

-- a set to which the names of all nodes were added has the names that the expression refers to
pub all-collected : {S : Type 0} (e : Tree) (nodes : List Tree) (set : HashSet Bytes S) → nodes ≡ post_order e → AddsNames (flat_map own_names nodes) [] set.keys → HasExactly (reference_names e) set
all-collected e nodes set is adds name =
    has-exactly set (flat_map own_names nodes) [] set.keys refl refl adds name
    ∙ (ap (λ ns. has_name name (flat_map own_names ns)) is ∙ gathered (suc (node_height e)) e (omega arith) name)

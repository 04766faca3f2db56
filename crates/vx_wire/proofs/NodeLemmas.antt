-- The nodes of an expression from the leaves up: what holds at each of them, and the wire trees that are made of them.
use Rattle.std.proofs.Common.{◌≡◌, ℕ, ◌+◌, ◌<◌, ◌≤◌, List, [], ◌∷◌, ◌++◌, length, map, take, drop, get_or, refl, ap, sym, ◌∙◌, subst, append_assoc, arith}
use Rattle.std.proofs.lemmas.List.{append-nil, drop_all, drop_more, drop-map, length-append, length-map, map-append, take-map}
use Rattle.std.proofs.Math.Seq.{drop-append_seam, take-append_seam}
use Rattle.vx_dtype.specs.Types.{Bytes}
use Rattle.vx_expr.specs.Children.{id_of}
use Rattle.vx_expr.specs.PostOrders.{post_order, post_order_all}
use Rattle.vx_expr.specs.Trees.{Tree, root, literal, get_item, binary, not_of, is_null_of, like, between, cast, list_contains, pack, merge, select, dynamic, Trees, no_trees, tree, trees_of, children_of}
use Rattle.vx_expr.proofs.PostOrderLemmas.{Builds, Every, built, every_before, every_behind}
use Rattle.vx_wire_bytes.specs.Wires.{Wire, node}
use Rattle.vx_wire_bytes.specs.WireViews.{wires_in, tree_view, trees_view}
use Rattle.vx_wire_bytes.specs.declared.trees.WireTree.{WireTree}
use Rattle.vx_wire.specs.Forms.{wire_of, wires_of, node_with, Everywhere, EverywhereIn}
use Rattle.vx_wire.specs.Metadata.{metadata_bytes}
use Rattle.vx_wire.proofs.SerialLemmas.{wires_listed}
use Rattle.vx_wire.proofs.WireLemmas.{wire_of-children}

-- ---- what holds at each node

module _ (P : Tree → Type 0) where
  every_of_both : (xs ys : List Tree) → Every P xs → Every P ys → Every P (xs ++ ys)
  every_of_both [] ys h k = k
  every_of_both (x ∷ xs) ys h k = (h.0, every_of_both xs ys h.1 k)

  own_last : (xs : List Tree) (e : Tree) → Every P (xs ++ e ∷ []) → P e
  own_last xs e h = (every_behind P xs (e ∷ []) h).0

  mutual
    unfolding post_order

    -- what holds everywhere in an expression holds of each of its nodes
    pub nodes_have : (e : Tree) → Everywhere P e → Every P (post_order e)
    nodes_have root h = (h, tt)
    nodes_have (literal s) h = (h, tt)
    nodes_have (get_item f e) h = every_of_both (post_order e) (get_item f e ∷ []) (nodes_have e h.1) (h.0, tt)
    nodes_have (binary l op r) h =
        every_of_both (post_order l) (post_order r ++ binary l op r ∷ []) (nodes_have l h.1) (every_of_both (post_order r) (binary l op r ∷ []) (nodes_have r h.2) (h.0, tt))
    nodes_have (not_of e) h = every_of_both (post_order e) (not_of e ∷ []) (nodes_have e h.1) (h.0, tt)
    nodes_have (is_null_of e) h = every_of_both (post_order e) (is_null_of e ∷ []) (nodes_have e h.1) (h.0, tt)
    nodes_have (like e p negated fold_case) h =
        every_of_both (post_order e) (post_order p ++ like e p negated fold_case ∷ []) (nodes_have e h.1)
        (every_of_both (post_order p) (like e p negated fold_case ∷ []) (nodes_have p h.2) (h.0, tt))
    nodes_have (between e lower upper options) h =
        every_of_both (post_order e) (post_order lower ++ (post_order upper ++ between e lower upper options ∷ [])) (nodes_have e h.1)
        (every_of_both (post_order lower) (post_order upper ++ between e lower upper options ∷ []) (nodes_have lower h.2)
        (every_of_both (post_order upper) (between e lower upper options ∷ []) (nodes_have upper h.3) (h.0, tt)))
    nodes_have (cast e t) h = every_of_both (post_order e) (cast e t ∷ []) (nodes_have e h.1) (h.0, tt)
    nodes_have (list_contains l v) h =
        every_of_both (post_order l) (post_order v ++ list_contains l v ∷ []) (nodes_have l h.1) (every_of_both (post_order v) (list_contains l v ∷ []) (nodes_have v h.2) (h.0, tt))
    nodes_have (pack names es n) h = every_of_both (post_order_all es) (pack names es n ∷ []) (all_nodes_have es h.1) (h.0, tt)
    nodes_have (merge es n) h = every_of_both (post_order_all es) (merge es n ∷ []) (all_nodes_have es h.1) (h.0, tt)
    nodes_have (select s e) h = every_of_both (post_order e) (select s e ∷ []) (nodes_have e h.1) (h.0, tt)
    nodes_have (dynamic e op k t default) h = every_of_both (post_order e) (dynamic e op k t default ∷ []) (nodes_have e h.1) (h.0, tt)

    all_nodes_have : (es : Trees) → EverywhereIn P es → Every P (post_order_all es)
    all_nodes_have no_trees h = tt
    all_nodes_have (tree e es) h = every_of_both (post_order e) (post_order_all es) (nodes_have e h.0) (all_nodes_have es h.1)

  mutual
    unfolding post_order

    -- what holds of each node holds everywhere
    pub has_everywhere : (e : Tree) → Every P (post_order e) → Everywhere P e
    has_everywhere root h = h.0
    has_everywhere (literal s) h = h.0
    has_everywhere (get_item f e) h = (own_last (post_order e) (get_item f e) h, has_everywhere e (every_before P (post_order e) (get_item f e ∷ []) h))
    has_everywhere (binary l op r) h =
        let behind = every_behind P (post_order l) (post_order r ++ binary l op r ∷ []) h in (
          own_last (post_order r) (binary l op r) behind,
          has_everywhere l (every_before P (post_order l) (post_order r ++ binary l op r ∷ []) h),
          has_everywhere r (every_before P (post_order r) (binary l op r ∷ []) behind),
        )
    has_everywhere (not_of e) h = (own_last (post_order e) (not_of e) h, has_everywhere e (every_before P (post_order e) (not_of e ∷ []) h))
    has_everywhere (is_null_of e) h = (own_last (post_order e) (is_null_of e) h, has_everywhere e (every_before P (post_order e) (is_null_of e ∷ []) h))
    has_everywhere (like e p negated fold_case) h =
        let behind = every_behind P (post_order e) (post_order p ++ like e p negated fold_case ∷ []) h in (
          own_last (post_order p) (like e p negated fold_case) behind,
          has_everywhere e (every_before P (post_order e) (post_order p ++ like e p negated fold_case ∷ []) h),
          has_everywhere p (every_before P (post_order p) (like e p negated fold_case ∷ []) behind),
        )
    has_everywhere (between e lower upper options) h =
        let behind = every_behind P (post_order e) (post_order lower ++ (post_order upper ++ between e lower upper options ∷ [])) h in
        let last = every_behind P (post_order lower) (post_order upper ++ between e lower upper options ∷ []) behind in (
          own_last (post_order upper) (between e lower upper options) last,
          has_everywhere e (every_before P (post_order e) (post_order lower ++ (post_order upper ++ between e lower upper options ∷ [])) h),
          has_everywhere lower (every_before P (post_order lower) (post_order upper ++ between e lower upper options ∷ []) behind),
          has_everywhere upper (every_before P (post_order upper) (between e lower upper options ∷ []) last),
        )
    has_everywhere (cast e t) h = (own_last (post_order e) (cast e t) h, has_everywhere e (every_before P (post_order e) (cast e t ∷ []) h))
    has_everywhere (list_contains l v) h =
        let behind = every_behind P (post_order l) (post_order v ++ list_contains l v ∷ []) h in (
          own_last (post_order v) (list_contains l v) behind,
          has_everywhere l (every_before P (post_order l) (post_order v ++ list_contains l v ∷ []) h),
          has_everywhere v (every_before P (post_order v) (list_contains l v ∷ []) behind),
        )
    has_everywhere (pack names es n) h = (own_last (post_order_all es) (pack names es n) h, all_have_everywhere es (every_before P (post_order_all es) (pack names es n ∷ []) h))
    has_everywhere (merge es n) h = (own_last (post_order_all es) (merge es n) h, all_have_everywhere es (every_before P (post_order_all es) (merge es n ∷ []) h))
    has_everywhere (select s e) h = (own_last (post_order e) (select s e) h, has_everywhere e (every_before P (post_order e) (select s e ∷ []) h))
    has_everywhere (dynamic e op k t default) h =
        (own_last (post_order e) (dynamic e op k t default) h, has_everywhere e (every_before P (post_order e) (dynamic e op k t default ∷ []) h))

    all_have_everywhere : (es : Trees) → Every P (post_order_all es) → EverywhereIn P es
    all_have_everywhere no_trees h = tt
    all_have_everywhere (tree e es) h =
        (has_everywhere e (every_before P (post_order e) (post_order_all es) h), all_have_everywhere es (every_behind P (post_order e) (post_order_all es) h))

-- ---- a loop over the nodes

-- each node before those that are left has it
pub record Reached (P : Tree → Type 0) (e : Tree) (left : List Tree) : Type 0 where
  pub before : List Tree
  pub nodes : post_order e ≡ before ++ left
  pub have : Every P before

pub none_reached : (P : Tree → Type 0) (e : Tree) (nodes : List Tree) → nodes ≡ post_order e → Reached P e nodes
none_reached P e nodes are = record { before = []; nodes = sym are; have = tt }

pub reached_next : (P : Tree → Type 0) (e n : Tree) (left more : List Tree) → left ≡ n ∷ more → P n → Reached P e left → Reached P e more
reached_next P e n left more is p h =
    record {
      before = h.before ++ n ∷ [];
      nodes = h.nodes ∙ ap (λ ns. h.before ++ ns) is ∙ sym (append_assoc h.before (n ∷ []) more);
      have = every_of_both P h.before (n ∷ []) h.have (p, tt);
    }

pub all_reached : (P : Tree → Type 0) (e : Tree) (left : List Tree) → left ≡ [] → Reached P e left → Everywhere P e
all_reached P e left none h =
    has_everywhere P e (subst (Every P) (sym (h.nodes ∙ ap (λ ns. h.before ++ ns) none ∙ append-nil h.before)) h.have)

-- the first node that is left has what holds everywhere
pub at_node : (P Q : Tree → Type 0) (e n : Tree) (left more : List Tree) → left ≡ n ∷ more → Reached P e left → Everywhere Q e → Q n
at_node P Q e n left more is h all =
    (every_behind Q h.before (n ∷ more) (subst (Every Q) (h.nodes ∙ ap (λ ns. h.before ++ ns) is) (nodes_have Q e all))).0

-- the nodes from a place on are the one there and those behind it, and past the last there are none
pub node_here : {A B : Type 0} (see : A → B) (xs : List A) (i : ℕ) (x : A) → i < length xs → x ≡ get_or xs i x → map see (drop i xs) ≡ see x ∷ map see (drop (i + 1) xs)
node_here see xs i x within is = ap (map see) (drop_more xs i x within ∙ ap (λ y. y ∷ drop (i + 1) xs) (sym is))

pub none_left : {A B : Type 0} (see : A → B) (xs : List A) (i : ℕ) → length xs ≤ i → map see (drop i xs) ≡ []
none_left see xs i past = ap (map see) (drop_all i xs past)

-- ---- wire trees of the nodes

-- the wire trees are those of expressions of which the nodes that are left make one
pub record Made (left : List Tree) (trees : List WireTree) (e : Tree) : Type 0 where
  pub made : List Tree
  pub forms : map tree_view trees ≡ map wire_of made
  pub builds : Builds left made e

pub none_made : (e : Tree) (nodes : List Tree) (trees : List WireTree) → nodes ≡ post_order e → trees ≡ [] → Made nodes trees e
none_made e nodes trees are none = record { made = []; forms = ap (map tree_view) none; builds = subst (λ ns. Builds ns [] e) (sym are) (built e) }

as_many : (trees : List WireTree) (es : List Tree) → map tree_view trees ≡ map wire_of es → length trees ≡ length es
as_many trees es forms = sym (length-map trees tree_view) ∙ ap length forms ∙ length-map es wire_of

module _ (e n : Tree) (left more : List Tree) (trees : List WireTree) (is : left ≡ n ∷ more) (h : Made left trees e) where
  builds_here : Builds (n ∷ more) h.made e
  builds_here = subst (λ ns. Builds ns h.made e) is h.builds

  forms_here : map tree_view trees ≡ map wire_of builds_here.0 ++ map wire_of (children_of n)
  forms_here = h.forms ∙ ap (map wire_of) builds_here.1 ∙ map-append wire_of builds_here.0 (children_of n)

  number_here : length trees ≡ length builds_here.0 + length (children_of n)
  number_here = as_many trees h.made h.forms ∙ ap length builds_here.1 ∙ length-append builds_here.0 (children_of n)

  -- a node's children are among what is made
  pub has_room : length (children_of n) ≤ length trees
  has_room = omega (arith, number_here)

  module _ (k : ℕ) (cut : k + length (children_of n) ≡ length trees) where
    cut_at : k ≡ length (map wire_of builds_here.0)
    cut_at = let all = number_here in let len : length (map wire_of builds_here.0) ≡ length builds_here.0 = length-map builds_here.0 wire_of in omega (arith, cut, all, len)

    -- their wire trees stand at the end
    pub children_made : map tree_view (drop k trees) ≡ map wire_of (children_of n)
    children_made =
        sym (drop-map tree_view k trees) ∙ ap (drop k) forms_here ∙ ap (λ j. drop j (map wire_of builds_here.0 ++ map wire_of (children_of n))) cut_at
        ∙ drop-append_seam (map wire_of builds_here.0) (map wire_of (children_of n))

    -- the node's own takes their place
    pub node_made : (t : WireTree) (new : List WireTree) → new ≡ take k trees ++ t ∷ [] → tree_view t ≡ wire_of n → Made more new e
    node_made t new row form =
        record {
          made = builds_here.0 ++ n ∷ [];
          forms =
              ap (map tree_view) row ∙ map-append tree_view (take k trees) (t ∷ [])
              ∙ ap (λ ws. ws ++ tree_view t ∷ [])
              (sym (take-map tree_view k trees) ∙ ap (take k) forms_here ∙ ap (λ j. take j (map wire_of builds_here.0 ++ map wire_of (children_of n))) cut_at
              ∙ take-append_seam (map wire_of builds_here.0) (map wire_of (children_of n)))
              ∙ ap (λ w. map wire_of builds_here.0 ++ w ∷ []) form ∙ sym (map-append wire_of builds_here.0 (n ∷ []));
          builds = builds_here.2;
        }

last_alone : {X : Type 0} (xs : List X) (x v : X) → xs ++ x ∷ [] ≡ v ∷ [] → x ≡ v
last_alone [] x v h = cc
last_alone (y ∷ []) x v h = let wrong : ⊥ = cc in absurd wrong
last_alone (y ∷ z ∷ xs) x v h = let wrong : ⊥ = cc in absurd wrong

all_made : (e : Tree) (left : List Tree) (trees : List WireTree) → left ≡ [] → Made left trees e → map tree_view trees ≡ wire_of e ∷ []
all_made e left trees none h = let whole : h.made ≡ e ∷ [] = subst (λ ns. Builds ns h.made e) none h.builds in h.forms ∙ ap (map wire_of) whole

-- the last wire tree is that of the expression
pub whole_made : (e : Tree) (left : List Tree) (trees rest : List WireTree) (t : WireTree) → left ≡ [] → trees ≡ rest ++ t ∷ [] → Made left trees e → tree_view t ≡ wire_of e
whole_made e left trees rest t none popped h =
    last_alone (map tree_view rest) (tree_view t) (wire_of e) (sym (map-append tree_view rest (t ∷ [])) ∙ ap (map tree_view) (sym popped) ∙ all_made e left trees none h)

pub some_made : (e : Tree) (left : List Tree) (trees : List WireTree) → left ≡ [] → Made left trees e → trees ≡ [] → ⊥
some_made e left trees none h empty = let same : [] ≡ wire_of e ∷ [] = ap (map tree_view) (sym empty) ∙ all_made e left trees none h in let wrong : ⊥ = cc in wrong

-- a node over the wire trees of its children
pub node_form : (e : Tree) (children : List WireTree) (id metadata : Bytes) → map tree_view children ≡ map wire_of (children_of e) → id ≡ id_of e → metadata ≡ metadata_bytes e
    → node id metadata (trees_view children) ≡ wire_of e
node_form e children id metadata forms name bytes =
    ap (λ (x : Bytes). node x metadata (trees_view children)) name ∙ ap (λ (x : Bytes). node (id_of e) x (trees_view children)) bytes
    ∙ ap (node_with e) (ap wires_in forms ∙ sym (wires_listed (children_of e))) ∙ sym (wire_of-children e)

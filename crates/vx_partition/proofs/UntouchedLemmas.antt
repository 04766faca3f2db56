-- An expression no node of which has annotations: each entry stays empty, and nothing is taken out.
use Rattle.std.proofs.Common.{◌≡◌, Bool, true, false, cond, List, [], ◌∷◌, ◌++◌, length, refl, ap, sym, subst, ◌∙◌}
use Rattle.std.specs.List.{flat_map, list_all}
use Rattle.std.proofs.lemmas.Bool.{and_parts}
use Rattle.vx_dtype.specs.Types.{Bytes}
use Rattle.vx_expr.proofs.PostOrderLemmas.{Every, every_before, every_behind}
use Rattle.vx_expr.specs.Equal.{tree_eq}
use Rattle.vx_expr.specs.PostOrders.{post_order, post_order_all}
use Rattle.vx_expr.specs.Trees.{Tree, root, literal, get_item, binary, not_of, is_null_of, like, between, cast, list_contains, pack, merge, select, dynamic}
use Rattle.vx_expr.specs.Trees.{Trees, no_trees, tree, children_of}
use Rattle.vx_passes.specs.Annotating.{Entry, entry_of, joined_sets, with_annotations, annotated_down, annotated_up, annotated_node, annotated_from, all_annotated_from, annotated}
use Rattle.vx_passes.specs.Splitting.{Share, Taken, before_others, before_taken, over_list, over_one, over_three, over_two, part_or_below, taken_from, all_taken_from}
use Rattle.vx_partition.specs.Takings.{taken_as}
use Rattle.vx_partition.specs.Views.{entry_view}
use Rattle.vx_partition.specs.Visits.{has_none}
use Rattle.vx_partition.proofs.VisitLemmas.{empty_is}

-- entries without annotations
abbrev AreEmpty : {A : Type 0} → List (Entry A) → Type 0
AreEmpty [] = Unit {0}
AreEmpty (x ∷ xs) = (x.annotations ≡ []) × AreEmpty xs

held_none : {A : Type 0} (m : List (Entry A)) → AreEmpty m → (e : Tree) → entry_of e m ≡ []
held_none [] h e = refl
held_none (x ∷ xs) h e = elim (tree_eq e x.expression) as (λ b. cond b x.annotations (entry_of e xs) ≡ []) [ true ↦ h.0 | false ↦ held_none xs h.1 e ]

none_held : {A : Type 0} (m : List (Entry A)) → AreEmpty m → (es : List Tree) → flat_map (λ c. entry_of c m) es ≡ []
none_held m h [] = refl
none_held m h (e ∷ es) = ap (λ xs. xs ++ flat_map (λ c. entry_of c m) es) (held_none m h e) ∙ none_held m h es

module _ {A : Type 0} (same : A → A → Bool) (annotate : Tree → List A) where
  -- a node without annotations of its own
  abbrev pub IsBare : Tree → Type 0
  IsBare e = annotate e ≡ []

  pub each_bare : (es : List Tree) → list_all (has_none annotate) es ≡ true → Every IsBare es
  each_bare [] h = tt
  each_bare (e ∷ es) h =
      let parts = and_parts (has_none annotate e) (list_all (has_none annotate) es) h in
      (empty_is (annotate e) (length (annotate e)) (has_none annotate e) refl refl parts.0, each_bare es parts.1)

  last_bare : (before : List Tree) (e : Tree) → Every IsBare (before ++ e ∷ []) → IsBare e
  last_bare before e h = (every_behind IsBare before (e ∷ []) h).0

  empty_where : (b : Bool) (x : Entry A) (xs others : List (Entry A)) → AreEmpty (x ∷ xs) → AreEmpty others
      → AreEmpty (cond b (entry_view x.expression (joined_sets same x.annotations []) ∷ xs) (x ∷ others))
  empty_where true x xs others h rest = h
  empty_where false x xs others h rest = (h.0, rest)

  with_none : (e : Tree) (m : List (Entry A)) → AreEmpty m → AreEmpty (with_annotations same e [] m)
  with_none e [] h = (refl, tt)
  with_none e (x ∷ xs) h = empty_where (tree_eq e x.expression) x xs (with_annotations same e [] xs) h (with_none e xs h.1)

  node_bare : (e : Tree) (below : List (Entry A) → List (Entry A)) (m : List (Entry A)) → IsBare e → AreEmpty (below m) → AreEmpty (annotated_node same annotate e below m)
  node_bare e below m own h =
      let down : annotated_down same e (annotate e) below m ≡ below m = ap (λ ys. annotated_down same e ys below m) own in
      let up : annotated_up same e (below m) ≡ with_annotations same e [] (below m) = ap (λ ys. with_annotations same e ys (below m)) (none_held (below m) h (children_of e)) in
      subst (λ (k : List (Entry A)). AreEmpty k) (sym (ap (annotated_up same e) down ∙ up)) (with_none e (below m) h)

  mutual
    unfolding annotated_from post_order

    -- no entry gets annotations where no node has some
    bare : (e : Tree) (m : List (Entry A)) → Every IsBare (post_order e) → AreEmpty m → AreEmpty (annotated_from same annotate e m)
    bare root m u h = node_bare root (λ k. k) m u.0 h
    bare (literal s) m u h = node_bare (literal s) (λ k. k) m u.0 h
    bare (get_item f e) m u h =
        node_bare (get_item f e) (annotated_from same annotate e) m (last_bare (post_order e) (get_item f e) u) (bare e m (every_before IsBare (post_order e) (get_item f e ∷ []) u) h)
    bare (binary l op r) m u h =
        let right = every_behind IsBare (post_order l) (post_order r ++ binary l op r ∷ []) u in
        node_bare (binary l op r) (λ k. annotated_from same annotate r (annotated_from same annotate l k)) m (last_bare (post_order r) (binary l op r) right)
        (bare r (annotated_from same annotate l m) (every_before IsBare (post_order r) (binary l op r ∷ []) right)
        (bare l m (every_before IsBare (post_order l) (post_order r ++ binary l op r ∷ []) u) h))
    bare (not_of e) m u h = node_bare (not_of e) (annotated_from same annotate e) m (last_bare (post_order e) (not_of e) u) (bare e m (every_before IsBare (post_order e) (not_of e ∷ []) u) h)
    bare (is_null_of e) m u h =
        node_bare (is_null_of e) (annotated_from same annotate e) m (last_bare (post_order e) (is_null_of e) u) (bare e m (every_before IsBare (post_order e) (is_null_of e ∷ []) u) h)
    bare (like e p negated fold_case) m u h =
        let node = like e p negated fold_case in
        let right = every_behind IsBare (post_order e) (post_order p ++ node ∷ []) u in
        node_bare node (λ k. annotated_from same annotate p (annotated_from same annotate e k)) m (last_bare (post_order p) node right)
        (bare p (annotated_from same annotate e m) (every_before IsBare (post_order p) (node ∷ []) right)
        (bare e m (every_before IsBare (post_order e) (post_order p ++ node ∷ []) u) h))
    bare (between e lower upper options) m u h =
        let node = between e lower upper options in
        let second = every_behind IsBare (post_order e) (post_order lower ++ (post_order upper ++ node ∷ [])) u in
        let third = every_behind IsBare (post_order lower) (post_order upper ++ node ∷ []) second in
        let k = annotated_from same annotate e m in
        node_bare node (λ k. annotated_from same annotate upper (annotated_from same annotate lower (annotated_from same annotate e k))) m (last_bare (post_order upper) node third)
        (bare upper (annotated_from same annotate lower k) (every_before IsBare (post_order upper) (node ∷ []) third)
        (bare lower k (every_before IsBare (post_order lower) (post_order upper ++ node ∷ []) second)
        (bare e m (every_before IsBare (post_order e) (post_order lower ++ (post_order upper ++ node ∷ [])) u) h)))
    bare (cast e t) m u h = node_bare (cast e t) (annotated_from same annotate e) m (last_bare (post_order e) (cast e t) u) (bare e m (every_before IsBare (post_order e) (cast e t ∷ []) u) h)
    bare (list_contains l v) m u h =
        let right = every_behind IsBare (post_order l) (post_order v ++ list_contains l v ∷ []) u in
        node_bare (list_contains l v) (λ k. annotated_from same annotate v (annotated_from same annotate l k)) m (last_bare (post_order v) (list_contains l v) right)
        (bare v (annotated_from same annotate l m) (every_before IsBare (post_order v) (list_contains l v ∷ []) right)
        (bare l m (every_before IsBare (post_order l) (post_order v ++ list_contains l v ∷ []) u) h))
    bare (pack names es n) m u h =
        node_bare (pack names es n) (all_annotated_from same annotate es) m (last_bare (post_order_all es) (pack names es n) u)
        (all_bare es m (every_before IsBare (post_order_all es) (pack names es n ∷ []) u) h)
    bare (merge es n) m u h =
        node_bare (merge es n) (all_annotated_from same annotate es) m (last_bare (post_order_all es) (merge es n) u) (all_bare es m (every_before IsBare (post_order_all es) (merge es n ∷ []) u) h)
    bare (select s e) m u h =
        node_bare (select s e) (annotated_from same annotate e) m (last_bare (post_order e) (select s e) u) (bare e m (every_before IsBare (post_order e) (select s e ∷ []) u) h)
    bare (dynamic e op k t default) m u h =
        let node = dynamic e op k t default in
        node_bare node (annotated_from same annotate e) m (last_bare (post_order e) node u) (bare e m (every_before IsBare (post_order e) (node ∷ []) u) h)

    all_bare : (es : Trees) (m : List (Entry A)) → Every IsBare (post_order_all es) → AreEmpty m → AreEmpty (all_annotated_from same annotate es m)
    all_bare no_trees m u h = h
    all_bare (tree e es) m u h =
        all_bare es (annotated_from same annotate e m) (every_behind IsBare (post_order e) (post_order_all es) u) (bare e m (every_before IsBare (post_order e) (post_order_all es) u) h)

  module _ (text : A → Bytes) (m : List (Entry A)) (none : AreEmpty m) where
    node_whole : (e : Tree) (below : List (Share A) → Taken A) (ss : List (Share A)) → below ss ≡ taken_as e ss → part_or_below same text e (entry_of e m) below ss ≡ taken_as e ss
    node_whole e below ss is = ap (λ xs. part_or_below same text e xs below ss) (held_none m none e) ∙ is

    mutual
      unfolding taken_from

      -- nothing is taken out where no entry has annotations
      whole : (e : Tree) (ss : List (Share A)) → taken_from same text m e ss ≡ taken_as e ss
      whole root ss = node_whole root (λ rs. taken_as root rs) ss refl
      whole (literal s) ss = node_whole (literal s) (λ rs. taken_as (literal s) rs) ss refl
      whole (get_item f e) ss = node_whole (get_item f e) (λ rs. over_one (get_item f) (taken_from same text m e rs)) ss (ap (over_one (get_item f)) (whole e ss))
      whole (binary l op r) ss =
          node_whole (binary l op r) (λ rs. over_two (λ a. λ b. binary a op b) (taken_from same text m r) (taken_from same text m l rs)) ss
          (ap (over_two (λ a. λ b. binary a op b) (taken_from same text m r)) (whole l ss) ∙ ap (over_one (binary l op)) (whole r ss))
      whole (not_of e) ss = node_whole (not_of e) (λ rs. over_one not_of (taken_from same text m e rs)) ss (ap (over_one not_of) (whole e ss))
      whole (is_null_of e) ss = node_whole (is_null_of e) (λ rs. over_one is_null_of (taken_from same text m e rs)) ss (ap (over_one is_null_of) (whole e ss))
      whole (like e p negated fold_case) ss =
          let node : Tree → Tree → Tree = λ d. λ q. like d q negated fold_case in
          node_whole (like e p negated fold_case) (λ rs. over_two node (taken_from same text m p) (taken_from same text m e rs)) ss
          (ap (over_two node (taken_from same text m p)) (whole e ss) ∙ ap (over_one (node e)) (whole p ss))
      whole (between e lower upper options) ss =
          let node : Tree → Tree → Tree → Tree = λ d. λ a. λ b. between d a b options in
          node_whole (between e lower upper options) (λ rs. over_three node (taken_from same text m lower) (taken_from same text m upper) (taken_from same text m e rs)) ss
          (ap (over_three node (taken_from same text m lower) (taken_from same text m upper)) (whole e ss)
          ∙ ap (over_two (node e) (taken_from same text m upper)) (whole lower ss)
          ∙ ap (over_one (node e lower)) (whole upper ss))
      whole (cast e t) ss = node_whole (cast e t) (λ rs. over_one (λ d. cast d t) (taken_from same text m e rs)) ss (ap (over_one (λ d. cast d t)) (whole e ss))
      whole (list_contains l v) ss =
          node_whole (list_contains l v) (λ rs. over_two list_contains (taken_from same text m v) (taken_from same text m l rs)) ss
          (ap (over_two list_contains (taken_from same text m v)) (whole l ss) ∙ ap (over_one (list_contains l)) (whole v ss))
      whole (pack names es n) ss =
          node_whole (pack names es n) (λ rs. over_list (λ ds. pack names ds n) (all_taken_from same text m es rs)) ss (ap (over_list (λ ds. pack names ds n)) (all_whole es ss))
      whole (merge es n) ss = node_whole (merge es n) (λ rs. over_list (λ ds. merge ds n) (all_taken_from same text m es rs)) ss (ap (over_list (λ ds. merge ds n)) (all_whole es ss))
      whole (select s e) ss = node_whole (select s e) (λ rs. over_one (select s) (taken_from same text m e rs)) ss (ap (over_one (select s)) (whole e ss))
      whole (dynamic e op k t default) ss =
          node_whole (dynamic e op k t default) (λ rs. over_one (λ d. dynamic d op k t default) (taken_from same text m e rs)) ss (ap (over_one (λ d. dynamic d op k t default)) (whole e ss))

      all_whole : (es : Trees) (ss : List (Share A)) → all_taken_from same text m es ss ≡ record { expressions = es; shares = ss }
      all_whole no_trees ss = refl
      all_whole (tree e es) ss = ap (before_taken (all_taken_from same text m es)) (whole e ss) ∙ ap (before_others e) (all_whole es ss)

  -- so of an expression without annotations nothing is taken out
  pub nothing_taken : (text : A → Bytes) (e : Tree) → Every IsBare (post_order e) → taken_from same text (annotated same annotate e) e [] ≡ taken_as e []
  nothing_taken text e u = whole text (annotated same annotate e) (bare e [] u tt) e []

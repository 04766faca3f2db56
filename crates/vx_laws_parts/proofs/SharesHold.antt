-- What the parts of an expression and the shares are, by the nodes of the expression.
use Rattle.std.proofs.Common.{arith, ◌≡◌, refl, ap, sym, Bool, true, false, cond, ◌||◌, subst, List, [], ◌∷◌, ◌++◌, length, map, ℕ, suc, ◌+◌, ◌≤◌}
use Rattle.std.specs.List.{AllByRecursion, flat_map, list_any}
use Rattle.std.proofs.lemmas.List.{length-append}
use Rattle.vx_dtype.specs.Types.{Bytes}
use Rattle.vx_expr.specs.Trees.{Tree, root, literal, get_item, binary, not_of, is_null_of, like, between, cast, list_contains, pack, merge, select, dynamic, Trees, no_trees, tree, listed, children_of}
use Rattle.vx_semantics.specs.Nodes.{nodes_of}
use Rattle.vx_passes.specs.Annotating.{Entry, entry_of, joined_sets}
use Rattle.vx_passes.specs.Splitting.{Share, Taken, with_part, part_or_below, over_one, over_two, over_three, over_list, taken_from, all_taken_from}
use Rattle.vx_laws.proofs.EachNode.{by_children, nodes-by_children, nodes-below, all-both}

pub map-twice : {A B C : Type 0} (f : B → C) (g : A → B) (xs : List A) → map f (map g xs) ≡ map (λ x. f (g x)) xs
map-twice {C = C} f g [] = refl
map-twice {C = C} f g (x ∷ xs) = ap (λ (ys : List C). f (g x) ∷ ys) (map-twice f g xs)

module _ {A : Type 0} (same : A → A → Bool) (text : A → Bytes) (m : List (Entry A)) where
  -- the shares once parts were taken out of several expressions
  abbrev pub shares_after : List Tree → List (Share A) → List (Share A)
  shares_after [] ss = ss
  shares_after (c ∷ cs) ss = shares_after cs (taken_from same text m c ss).shares

  -- the shares once a node with these annotations became a part, or else what was below it was looked at
  abbrev pub shares_with : Tree → List A → (List (Share A) → List (Share A)) → List (Share A) → List (Share A)
  shares_with e (a ∷ []) below ss = with_part same a e ss
  shares_with e _ below ss = below ss

  by-entry : (e : Tree) (xs : List A) (below : List (Share A) → Taken A) (after : List (Share A) → List (Share A)) (ss : List (Share A)) → (below ss).shares ≡ after ss
      → (part_or_below same text e xs below ss).shares ≡ shares_with e xs after ss
  by-entry e [] below after ss h = h
  by-entry e (a ∷ []) below after ss h = refl
  by-entry e (a ∷ b ∷ xs) below after ss h = h

  listed-shares : (es : Trees) (ss : List (Share A)) → (all_taken_from same text m es ss).shares ≡ shares_after (listed es) ss
  unfolding taken_from
  listed-shares no_trees ss = refl
  listed-shares (tree e es) ss = listed-shares es (taken_from same text m e ss).shares

  -- the shares of an expression by those of its children
  pub shares-by_children : (e : Tree) (ss : List (Share A)) → (taken_from same text m e ss).shares ≡ shares_with e (entry_of e m) (shares_after (children_of e)) ss
  unfolding taken_from
  shares-by_children root ss = by-entry root (entry_of root m) (λ ks. record { expression = root; shares = ks }) (shares_after []) ss refl
  shares-by_children (literal s) ss = by-entry (literal s) (entry_of (literal s) m) (λ ks. record { expression = literal s; shares = ks }) (shares_after []) ss refl
  shares-by_children (get_item f e) ss =
      by-entry (get_item f e) (entry_of (get_item f e) m) (λ ks. over_one (get_item f) (taken_from same text m e ks)) (shares_after (e ∷ [])) ss refl
  shares-by_children (binary l op r) ss =
      by-entry (binary l op r) (entry_of (binary l op r) m) (λ ks. over_two (λ a. λ b. binary a op b) (taken_from same text m r) (taken_from same text m l ks))
      (shares_after (l ∷ r ∷ [])) ss refl
  shares-by_children (not_of e) ss = by-entry (not_of e) (entry_of (not_of e) m) (λ ks. over_one not_of (taken_from same text m e ks)) (shares_after (e ∷ [])) ss refl
  shares-by_children (is_null_of e) ss =
      by-entry (is_null_of e) (entry_of (is_null_of e) m) (λ ks. over_one is_null_of (taken_from same text m e ks)) (shares_after (e ∷ [])) ss refl
  shares-by_children (like e p negated fold_case) ss =
      by-entry (like e p negated fold_case) (entry_of (like e p negated fold_case) m)
      (λ ks. over_two (λ d. λ q. like d q negated fold_case) (taken_from same text m p) (taken_from same text m e ks)) (shares_after (e ∷ p ∷ [])) ss refl
  shares-by_children (between e lower upper options) ss =
      by-entry (between e lower upper options) (entry_of (between e lower upper options) m)
      (λ ks. over_three (λ d. λ a. λ b. between d a b options) (taken_from same text m lower) (taken_from same text m upper) (taken_from same text m e ks))
      (shares_after (e ∷ lower ∷ upper ∷ [])) ss refl
  shares-by_children (cast e t) ss =
      by-entry (cast e t) (entry_of (cast e t) m) (λ ks. over_one (λ d. cast d t) (taken_from same text m e ks)) (shares_after (e ∷ [])) ss refl
  shares-by_children (list_contains l v) ss =
      by-entry (list_contains l v) (entry_of (list_contains l v) m) (λ ks. over_two list_contains (taken_from same text m v) (taken_from same text m l ks))
      (shares_after (l ∷ v ∷ [])) ss refl
  shares-by_children (pack names es n) ss =
      by-entry (pack names es n) (entry_of (pack names es n) m) (λ ks. over_list (λ ds. pack names ds n) (all_taken_from same text m es ks))
      (shares_after (listed es)) ss (listed-shares es ss)
  shares-by_children (merge es n) ss =
      by-entry (merge es n) (entry_of (merge es n) m) (λ ks. over_list (λ ds. merge ds n) (all_taken_from same text m es ks))
      (shares_after (listed es)) ss (listed-shares es ss)
  shares-by_children (select s e) ss =
      by-entry (select s e) (entry_of (select s e) m) (λ ks. over_one (select s) (taken_from same text m e ks)) (shares_after (e ∷ [])) ss refl
  shares-by_children (dynamic e op k t default) ss =
      by-entry (dynamic e op k t default) (entry_of (dynamic e op k t default) m) (λ ks. over_one (λ d. dynamic d op k t default) (taken_from same text m e ks))
      (shares_after (e ∷ [])) ss refl

  module _ (Node : Tree → Type 0) (Holds : List (Share A) → Type 0)
      (step : (a : A) (n : Tree) (ss : List (Share A)) → Node n → entry_of n m ≡ a ∷ [] → Holds ss → Holds (with_part same a n ss)) where
    Goes : Tree → Type 0
    Goes e = AllByRecursion Node (nodes_of e) → (ss : List (Share A)) → Holds ss → Holds (taken_from same text m e ss).shares

    after-holds : (cs : List Tree) → AllByRecursion Goes cs → AllByRecursion (λ c. AllByRecursion Node (nodes_of c)) cs → (ss : List (Share A)) → Holds ss → Holds (shares_after cs ss)
    unfolding Goes
    after-holds [] g h ss k = k
    after-holds (c ∷ cs) g h ss k = after-holds cs g.1 h.1 (taken_from same text m c ss).shares (g.0 h.0 ss k)

    with-holds : (e : Tree) (xs : List A) (below : List (Share A) → List (Share A)) (ss : List (Share A)) → Node e → entry_of e m ≡ xs → Holds ss → Holds (below ss) → Holds (shares_with e xs below ss)
    with-holds e [] below ss n h k r = r
    with-holds e (a ∷ []) below ss n h k r = step a e ss n h k
    with-holds e (a ∷ b ∷ xs) below ss n h k r = r

    -- what each part that is added keeps of the shares holds of them all
    pub taken-hold : (e : Tree) → AllByRecursion Node (nodes_of e) → (ss : List (Share A)) → Holds ss → Holds (taken_from same text m e ss).shares
    unfolding Goes
    taken-hold =
        by_children Goes
        (λ e below h ss k.
        let p = nodes-below Node e h in
        subst Holds (sym (shares-by_children e ss))
        (with-holds e (entry_of e m) (shares_after (children_of e)) ss p.0 refl k (after-holds (children_of e) below p.1 ss k)))

  -- a fact of each part and its annotation
  module _ (Part : A → Tree → Type 0) where
    abbrev pub SharesHold : List (Share A) → Type 0
    SharesHold [] = Unit {0}
    SharesHold (x ∷ xs) = AllByRecursion (Part x.annotation) x.parts × SharesHold xs

    part-holds : ((a b : A) → same a b ≡ true → a ≡ b) → (a : A) (e : Tree) (ss : List (Share A)) → Part a e → SharesHold ss → SharesHold (with_part same a e ss)
    part-holds o a e [] h k = ((h, tt), tt)
    part-holds o a e (x ∷ xs) h k = by-test (same a x.annotation) refl (part-holds o a e xs h k.1)
      where
        by-test : (b : Bool) → same a x.annotation ≡ b → SharesHold (with_part same a e xs)
            → SharesHold (cond b (record { annotation = x.annotation; parts = x.parts ++ e ∷ [] } ∷ xs) (x ∷ with_part same a e xs))
        by-test true i r = (all-both (Part x.annotation) x.parts (e ∷ []) k.0 (subst (λ (z : A). Part z e) (o a x.annotation i) h, tt), k.1)
        by-test false i r = (k.0, r)

    pub shares-hold : ((a b : A) → same a b ≡ true → a ≡ b) → (e : Tree) → AllByRecursion (λ n. (a : A) → entry_of n m ≡ a ∷ [] → Part a n) (nodes_of e)
        → (ss : List (Share A)) → SharesHold ss → SharesHold (taken_from same text m e ss).shares
    shares-hold o = taken-hold (λ n. (a : A) → entry_of n m ≡ a ∷ [] → Part a n) SharesHold (λ a n ss h i k. part-holds o a n ss (h a i) k)

  -- the annotations of shares
  abbrev pub annotations : List (Share A) → List A
  annotations ss = map (λ x. x.annotation) ss

  pub annotations-with_part : (a : A) (e : Tree) (ss : List (Share A)) → annotations (with_part same a e ss) ≡ joined_sets same (annotations ss) (a ∷ [])
  annotations-with_part a e [] = refl
  annotations-with_part a e (x ∷ xs) = by-test (same a x.annotation) (list_any (same a) (annotations xs)) (annotations-with_part a e xs)
    where
      by-test : (b c : Bool) → annotations (with_part same a e xs) ≡ cond c (annotations xs) (annotations xs ++ a ∷ [])
          → annotations (cond b (record { annotation = x.annotation; parts = x.parts ++ e ∷ [] } ∷ xs) (x ∷ with_part same a e xs))
          ≡ cond (b || c) (x.annotation ∷ annotations xs) (x.annotation ∷ (annotations xs ++ a ∷ []))
      by-test true c r = refl
      by-test false true r = ap (λ (ys : List A). x.annotation ∷ ys) r
      by-test false false r = ap (λ (ys : List A). x.annotation ∷ ys) r

  -- how many parts the shares have
  abbrev pub parts_in : List (Share A) → ℕ
  parts_in [] = 0
  parts_in (x ∷ xs) = length x.parts + parts_in xs

  parts_in-with_part : (a : A) (e : Tree) (ss : List (Share A)) → parts_in (with_part same a e ss) ≡ suc (parts_in ss)
  parts_in-with_part a e [] = refl
  parts_in-with_part a e (x ∷ xs) = by-test (same a x.annotation) (parts_in-with_part a e xs)
    where
      by-test : (b : Bool) → parts_in (with_part same a e xs) ≡ suc (parts_in xs)
          → parts_in (cond b (record { annotation = x.annotation; parts = x.parts ++ e ∷ [] } ∷ xs) (x ∷ with_part same a e xs)) ≡ suc (length x.parts + parts_in xs)
      by-test true r = let l : length (x.parts ++ e ∷ []) ≡ length x.parts + 1 = length-append x.parts (e ∷ []) in omega arith
      by-test false r = omega arith

  Few : Tree → Type 0
  Few e = (ss : List (Share A)) → parts_in (taken_from same text m e ss).shares ≤ parts_in ss + length (nodes_of e)

  after-few : (cs : List Tree) → AllByRecursion Few cs → (ss : List (Share A)) → parts_in (shares_after cs ss) ≤ parts_in ss + length (flat_map nodes_of cs)
  unfolding Few
  after-few [] h ss = omega arith
  after-few (c ∷ cs) h ss =
      let first = h.0 ss in
      let rest = after-few cs h.1 (taken_from same text m c ss).shares in
      let l : length (nodes_of c ++ flat_map nodes_of cs) ≡ length (nodes_of c) + length (flat_map nodes_of cs) = length-append (nodes_of c) (flat_map nodes_of cs) in
      omega arith

  with-few : (e : Tree) (xs : List A) (below : List (Share A) → List (Share A)) (ss : List (Share A)) (n : ℕ) → parts_in (below ss) ≤ parts_in ss + n → parts_in (shares_with e xs below ss) ≤ parts_in ss + suc n
  with-few e [] below ss n h = omega arith
  with-few e (a ∷ []) below ss n h = let k = parts_in-with_part a e ss in omega arith
  with-few e (a ∷ b ∷ xs) below ss n h = omega arith

  -- an expression gives no more parts than it has nodes
  pub parts-few : (e : Tree) (ss : List (Share A)) → parts_in (taken_from same text m e ss).shares ≤ parts_in ss + length (nodes_of e)
  unfolding Few
  parts-few =
      by_children Few
      (λ e below ss.
      subst (λ (ks : List (Share A)). parts_in ks ≤ parts_in ss + length (nodes_of e)) (sym (shares-by_children e ss))
      (subst (λ (ns : List Tree). parts_in (shares_with e (entry_of e m) (shares_after (children_of e)) ss) ≤ parts_in ss + length ns) (sym (nodes-by_children e))
      (with-few e (entry_of e m) (shares_after (children_of e)) ss (length (flat_map nodes_of (children_of e))) (after-few (children_of e) below ss))))

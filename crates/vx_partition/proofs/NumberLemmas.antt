-- Nodes over the numbers of their children, and tables of these.
use Rattle.std.proofs.Common.{◌≡◌, ℕ, suc, pos, ◌==◌, List, [], ◌∷◌, length, map, option_map, refl, sym, ap, subst, ◌∙◌, arith}
use Rattle.std.specs.Prelude.{unwrap_or}
use Rattle.vx_dtype.specs.Values.{Raw, raw_int}
use Rattle.vx_expr.specs.Trees.{Tree, root, literal, get_item, binary, not_of, is_null_of, like, between, cast, list_contains, pack, merge, select, dynamic, Trees, trees_of, listed, children_of}
use Rattle.vx_expr.specs.Children.{one_of, two_of, three_of, where_so}
use Rattle.vx_expr.proofs.TreeLemmas.{listed_trees_of, trees_of_listed}
use Rattle.vx_transform.specs.Rebuilds.{with_these}
use Rattle.vx_transform.proofs.RebuildLemmas.{with_as_many}
use Rattle.vx_partition.specs.Numbering.{number_tree, over_numbers}

-- ---- a node with other children

-- the node has these children now, and with those of the other it is the other
abbrev Swapped : Tree → List Tree → Tree → Type 0
Swapped e cs d = (children_of d ≡ cs) × (with_these d (children_of e) ≡ e)

module _ (P : List Tree → Tree → Type 0) (other : Tree) where
  with_none : (cs : List Tree) → P [] other → length cs ≡ 0 → P cs (unwrap_or (where_so (length cs == 0) other) other)
  with_none [] p h = p
  with_none (c ∷ cs) p h = absurd (omega (arith, h))

  with_one : (node : Tree → Tree) (cs : List Tree) → ((c : Tree) → P (c ∷ []) (node c)) → length cs ≡ 1
      → P cs (unwrap_or (option_map node (one_of cs)) other)
  with_one node [] p h = absurd (omega (arith, h))
  with_one node (c ∷ []) p h = p c
  with_one node (c ∷ d ∷ cs) p h = absurd (omega (arith, h))

  with_two : (node : Tree → Tree → Tree) (cs : List Tree) → ((c d : Tree) → P (c ∷ d ∷ []) (node c d)) → length cs ≡ 2
      → P cs (unwrap_or (option_map (λ c. node c.0 c.1) (two_of cs)) other)
  with_two node [] p h = absurd (omega (arith, h))
  with_two node (c ∷ []) p h = absurd (omega (arith, h))
  with_two node (c ∷ d ∷ []) p h = p c d
  with_two node (c ∷ d ∷ a ∷ cs) p h = absurd (omega (arith, h))

  with_three : (node : Tree → Tree → Tree → Tree) (cs : List Tree) → ((c d a : Tree) → P (c ∷ d ∷ a ∷ []) (node c d a)) → length cs ≡ 3
      → P cs (unwrap_or (option_map (λ c. node c.0 c.1 c.2) (three_of cs)) other)
  with_three node [] p h = absurd (omega (arith, h))
  with_three node (c ∷ []) p h = absurd (omega (arith, h))
  with_three node (c ∷ d ∷ []) p h = absurd (omega (arith, h))
  with_three node (c ∷ d ∷ a ∷ []) p h = p c d a
  with_three node (c ∷ d ∷ a ∷ b ∷ cs) p h = absurd (omega (arith, h))

  with_many : (node : Trees → Tree) (es : Trees) (cs : List Tree) → P cs (node (trees_of cs)) → length cs ≡ length (listed es)
      → P cs (unwrap_or (where_so (length cs == length (listed es)) (node (trees_of cs))) other)
  with_many node es cs p h = subst (P cs) (sym (with_as_many (length cs) (length (listed es)) (node (trees_of cs)) other h)) p

-- a node of a list of children, with those of another list
listed_again : (node : Trees → Tree) (es : Trees) (cs : List Tree) → length cs ≡ length (listed es)
    → unwrap_or (where_so (length (listed es) == length (listed (trees_of cs))) (node (trees_of (listed es)))) (node (trees_of cs)) ≡ node es
listed_again node es cs h =
    with_as_many (length (listed es)) (length (listed (trees_of cs))) (node (trees_of (listed es))) (node (trees_of cs)) (sym (ap length (listed_trees_of cs) ∙ h))
    ∙ ap node (trees_of_listed es)

swapped : (e : Tree) (cs : List Tree) → length cs ≡ length (children_of e) → Swapped e cs (with_these e cs)
swapped root cs h = with_none (Swapped root) root cs (refl, refl) h
swapped (literal s) cs h = with_none (Swapped (literal s)) (literal s) cs (refl, refl) h
swapped (get_item f e) cs h = with_one (Swapped (get_item f e)) (get_item f e) (get_item f) cs (λ c. (refl, refl)) h
swapped (binary l op r) cs h = with_two (Swapped (binary l op r)) (binary l op r) (λ a. λ b. binary a op b) cs (λ c d. (refl, refl)) h
swapped (not_of e) cs h = with_one (Swapped (not_of e)) (not_of e) not_of cs (λ c. (refl, refl)) h
swapped (is_null_of e) cs h = with_one (Swapped (is_null_of e)) (is_null_of e) is_null_of cs (λ c. (refl, refl)) h
swapped (like e p negated fold_case) cs h =
    let node = like e p negated fold_case in with_two (Swapped node) node (λ d. λ q. like d q negated fold_case) cs (λ c d. (refl, refl)) h
swapped (between e lower upper options) cs h =
    let node = between e lower upper options in
    with_three (Swapped node) node (λ d. λ l. λ u. between d l u options) cs (λ c d a. (refl, refl)) h
swapped (cast e t) cs h = with_one (Swapped (cast e t)) (cast e t) (λ d. cast d t) cs (λ c. (refl, refl)) h
swapped (list_contains l v) cs h = with_two (Swapped (list_contains l v)) (list_contains l v) list_contains cs (λ c d. (refl, refl)) h
swapped (pack names es n) cs h =
    with_many (Swapped (pack names es n)) (pack names es n) (λ ds. pack names ds n) es cs (listed_trees_of cs, listed_again (λ ds. pack names ds n) es cs h) h
swapped (merge es n) cs h =
    with_many (Swapped (merge es n)) (merge es n) (λ ds. merge ds n) es cs (listed_trees_of cs, listed_again (λ ds. merge ds n) es cs h) h
swapped (select s e) cs h = with_one (Swapped (select s e)) (select s e) (select s) cs (λ c. (refl, refl)) h
swapped (dynamic e op k t default) cs h =
    let node = dynamic e op k t default in with_one (Swapped node) node (λ d. dynamic d op k t default) cs (λ c. (refl, refl)) h

-- the number that a constant is
abbrev raw_number : Raw → ℕ
raw_number (raw_int (pos n)) = n
raw_number _ = 0

abbrev number_at : Tree → ℕ
number_at (literal s) = raw_number s.value
number_at _ = 0

numbers_back : (ns : List ℕ) → map number_at (map number_tree ns) ≡ ns
numbers_back [] = refl
numbers_back (n ∷ ns) = ap (λ ms. n ∷ ms) (numbers_back ns)

length_trees : (ns : List ℕ) → length (map number_tree ns) ≡ length ns
length_trees [] = refl
length_trees (n ∷ ns) = ap suc (length_trees ns)

module _ (d e : Tree) (ms ns : List ℕ) (as_many_d : length ms ≡ length (children_of d)) (as_many_e : length ns ≡ length (children_of e))
    (same : over_numbers d ms ≡ over_numbers e ns) where
  back_d : Swapped d (map number_tree ms) (over_numbers d ms)
  back_d = swapped d (map number_tree ms) (length_trees ms ∙ as_many_d)

  back_e : Swapped e (map number_tree ns) (over_numbers e ns)
  back_e = swapped e (map number_tree ns) (length_trees ns ∙ as_many_e)

  -- where two nodes over numbers are the same their numbers are
  pub same_numbers : ms ≡ ns
  same_numbers = sym (numbers_back ms) ∙ ap (map number_at) (sym back_d.0 ∙ ap children_of same ∙ back_e.0) ∙ numbers_back ns

  -- and with the same children the nodes are
  pub same_node : children_of d ≡ children_of e → d ≡ e
  same_node alike = sym back_d.1 ∙ ap (λ x. with_these x (children_of d)) same ∙ ap (with_these (over_numbers e ns)) alike ∙ back_e.1

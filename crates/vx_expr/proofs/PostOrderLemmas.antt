-- Nodes from the leaves up: what a loop over them makes, and how a fault of one node reaches the whole.
use Rattle.std.proofs.Common.{◌⊎◌, inl, inr, ◌≡◌, ℕ, zero, suc, ◌+◌, add-one, ◌<◌, ◌≤◌, arith, Some, List, [], ◌∷◌, ◌++◌, map, take, reverse, length, refl, ap, sym, ◌∙◌, subst, append_assoc, append-nil}
use Rattle.std.specs.List.{slice_get}
use Rattle.std.proofs.lemmas.List.{map-append, reverse-append, length-append, take_all}
use Rattle.std.proofs.lemmas.Option.{same_Some, none-some}
use Rattle.vx_expr.proofs.TreeLemmas.{trees_of_listed}
use Rattle.vx_expr.specs.PostOrders.{post_order, post_order_all}
use Rattle.vx_expr.specs.Trees.{Tree, root, literal, get_item, binary, not_of, is_null_of, like, between, cast, list_contains, pack, merge, select, dynamic}
use Rattle.vx_expr.specs.Trees.{Trees, no_trees, tree, trees_of, listed, children_of}

-- the nodes that are left make one expression of those that are made: each takes its children from their end
abbrev pub Builds : List Tree → List Tree → Tree → Type 0
Builds [] made e = made ≡ e ∷ []
Builds (n ∷ ns) made e = (before : List Tree) × (made ≡ before ++ children_of n) × Builds ns (before ++ n ∷ []) e

mutual
  unfolding post_order

  -- the nodes of an expression make it, whatever is made before them and left behind them
  pub builds : (e : Tree) (rest made : List Tree) (d : Tree) → Builds rest (made ++ e ∷ []) d → Builds (post_order e ++ rest) made d
  builds root rest made d h = (made, sym (append-nil made), h)
  builds (literal s) rest made d h = (made, sym (append-nil made), h)
  builds (get_item f e) rest made d h = rw (append_assoc (post_order e) (get_item f e ∷ []) rest) (builds e (get_item f e ∷ rest) made d (made, refl, h))
  builds (binary l op r) rest made d h =
      rw (append_assoc (post_order l) (post_order r ++ binary l op r ∷ []) rest, append_assoc (post_order r) (binary l op r ∷ []) rest)
      (builds l (post_order r ++ binary l op r ∷ rest) made d (builds r (binary l op r ∷ rest) (made ++ l ∷ []) d (made, append_assoc made (l ∷ []) (r ∷ []), h)))
  builds (not_of e) rest made d h = rw (append_assoc (post_order e) (not_of e ∷ []) rest) (builds e (not_of e ∷ rest) made d (made, refl, h))
  builds (is_null_of e) rest made d h = rw (append_assoc (post_order e) (is_null_of e ∷ []) rest) (builds e (is_null_of e ∷ rest) made d (made, refl, h))
  builds (like e p negated fold_case) rest made d h =
      rw (append_assoc (post_order e) (post_order p ++ like e p negated fold_case ∷ []) rest, append_assoc (post_order p) (like e p negated fold_case ∷ []) rest)
      (builds e (post_order p ++ like e p negated fold_case ∷ rest) made d (builds p (like e p negated fold_case ∷ rest) (made ++ e ∷ []) d (made, append_assoc made (e ∷ []) (p ∷ []), h)))
  builds (between e lower upper options) rest made d h =
      rw (
        append_assoc (post_order e) (post_order lower ++ (post_order upper ++ between e lower upper options ∷ [])) rest,
        append_assoc (post_order lower) (post_order upper ++ between e lower upper options ∷ []) rest,
        append_assoc (post_order upper) (between e lower upper options ∷ []) rest,
      )
      (builds e (post_order lower ++ (post_order upper ++ between e lower upper options ∷ rest)) made d
      (builds lower (post_order upper ++ between e lower upper options ∷ rest) (made ++ e ∷ []) d
      (builds upper (between e lower upper options ∷ rest) ((made ++ e ∷ []) ++ lower ∷ []) d
      (made, append_assoc (made ++ e ∷ []) (lower ∷ []) (upper ∷ []) ∙ append_assoc made (e ∷ []) (lower ∷ upper ∷ []), h))))
  builds (cast e t) rest made d h = rw (append_assoc (post_order e) (cast e t ∷ []) rest) (builds e (cast e t ∷ rest) made d (made, refl, h))
  builds (list_contains l v) rest made d h =
      rw (append_assoc (post_order l) (post_order v ++ list_contains l v ∷ []) rest, append_assoc (post_order v) (list_contains l v ∷ []) rest)
      (builds l (post_order v ++ list_contains l v ∷ rest) made d (builds v (list_contains l v ∷ rest) (made ++ l ∷ []) d (made, append_assoc made (l ∷ []) (v ∷ []), h)))
  builds (pack names es n) rest made d h = rw (append_assoc (post_order_all es) (pack names es n ∷ []) rest) (builds_all es (pack names es n ∷ rest) made d (made, refl, h))
  builds (merge es n) rest made d h = rw (append_assoc (post_order_all es) (merge es n ∷ []) rest) (builds_all es (merge es n ∷ rest) made d (made, refl, h))
  builds (select s e) rest made d h = rw (append_assoc (post_order e) (select s e ∷ []) rest) (builds e (select s e ∷ rest) made d (made, refl, h))
  builds (dynamic e op k t default) rest made d h = rw (append_assoc (post_order e) (dynamic e op k t default ∷ []) rest) (builds e (dynamic e op k t default ∷ rest) made d (made, refl, h))

  -- the same of the nodes of a list
  pub builds_all : (es : Trees) (rest made : List Tree) (d : Tree) → Builds rest (made ++ listed es) d → Builds (post_order_all es ++ rest) made d
  builds_all no_trees rest made d h = subst (λ m. Builds rest m d) (append-nil made) h
  builds_all (tree e es) rest made d h =
      rw (append_assoc (post_order e) (post_order_all es) rest)
      (builds e (post_order_all es ++ rest) made d (builds_all es rest (made ++ e ∷ []) d (subst (λ m. Builds rest m d) (sym (append_assoc made (e ∷ []) (listed es))) h)))

-- an expression's nodes, from the leaves up, make it of nothing
pub built : (e : Tree) → Builds (post_order e) [] e
built e = subst (λ ns. Builds ns [] e) (append-nil (post_order e)) (builds e [] [] e refl)

-- where a list with a certain element is cut: after it, or before it
cut : (p : List Tree) (x : Tree) (q r s : List Tree) → p ++ x ∷ q ≡ r ++ s
    → ((m : List Tree) × (p ≡ r ++ m) × (s ≡ m ++ x ∷ q)) ⊎ ((m : List Tree) × (r ≡ p ++ x ∷ m) × (q ≡ m ++ s))
cut p x q [] s h = inl (p, refl, sym h)
cut [] x q (y ∷ r) s h = let first : y ≡ x = cc in let others : q ≡ r ++ s = cc in inr (r, ap (λ z. z ∷ r) first, others)
cut (z ∷ p) x q (y ∷ r) s h =
    let first : z ≡ y = cc in let others : p ++ x ∷ q ≡ r ++ s = cc in
    elim (cut p x q r s others) [
      | inl found ↦ inl (found.0, ap (λ w. w ∷ p) first ∙ ap (λ ws. y ∷ ws) found.1, found.2)
      | inr found ↦ inr (found.0, ap (λ w. w ∷ r) (sym first) ∙ ap (λ ws. z ∷ ws) found.1, found.2)
    ]

-- what holds of each of these expressions
abbrev pub Every : (Tree → Type 0) → List Tree → Type 0
Every P [] = Unit {0}
Every P (x ∷ xs) = P x × Every P xs

pub every_before : (P : Tree → Type 0) (xs ys : List Tree) → Every P (xs ++ ys) → Every P xs
every_before P [] ys h = tt
every_before P (x ∷ xs) ys h = (h.0, every_before P xs ys h.1)

pub every_behind : (P : Tree → Type 0) (xs ys : List Tree) → Every P (xs ++ ys) → Every P ys
every_behind P [] ys h = h
every_behind P (x ∷ xs) ys h = every_behind P xs ys h.1

-- What holds of a node whose first bad child comes after none but fine ones holds of the whole expression, wherever the node stands.
module _ (Fine Bad : Tree → Type 0)
    (up : (e : Tree) (before : List Tree) (x : Tree) (after : List Tree) → children_of e ≡ before ++ x ∷ after → Every Fine before → Bad x → Bad e) where
  pub first_bad : (ns before : List Tree) (x : Tree) (after : List Tree) (e : Tree) → Builds ns (before ++ x ∷ after) e → Every Fine before → Bad x → Bad e
  first_bad [] [] x after e h fine bad = let same : x ≡ e = cc in subst Bad same bad
  first_bad [] (b ∷ []) x after e h fine bad = let no : ⊥ = cc in absurd no
  first_bad [] (b ∷ c ∷ bs) x after e h fine bad = let no : ⊥ = cc in absurd no
  first_bad (n ∷ ns) before x after e h fine bad =
      elim (cut before x after h.0 (children_of n) h.1) [
        | inl found ↦
            let all : Every Fine (h.0 ++ found.0) = subst (Every Fine) found.1 fine in
            first_bad ns h.0 n [] e h.2 (every_before Fine h.0 found.0 all) (up n found.0 x after found.2 (every_behind Fine h.0 found.0 all) bad)
        | inr found ↦
            first_bad ns before x (found.0 ++ n ∷ []) e
            (subst (λ made. Builds ns made e) (ap (λ made. made ++ n ∷ []) found.1 ∙ append_assoc before (x ∷ found.0) (n ∷ [])) h.2) fine bad
      ]

-- ---- the walk that lists the nodes

pub all_append : (es ds : List Tree) → post_order_all (trees_of (es ++ ds)) ≡ post_order_all (trees_of es) ++ post_order_all (trees_of ds)
unfolding post_order
all_append [] ds = refl
all_append (e ∷ es) ds = ap (λ ns. post_order e ++ ns) (all_append es ds) ∙ sym (append_assoc (post_order e) (post_order_all (trees_of es)) (post_order_all (trees_of ds)))

-- a node stands behind those below it
pub node_last : (e : Tree) → post_order e ≡ post_order_all (trees_of (children_of e)) ++ e ∷ []
unfolding post_order
node_last root = refl
node_last (literal s) = refl
node_last (get_item f e) = ap (λ ns. ns ++ get_item f e ∷ []) (sym (append-nil (post_order e)))
node_last (binary l op r) =
    sym (append_assoc (post_order l) (post_order r) (binary l op r ∷ [])) ∙ ap (λ ns. (post_order l ++ ns) ++ binary l op r ∷ []) (sym (append-nil (post_order r)))
node_last (not_of e) = ap (λ ns. ns ++ not_of e ∷ []) (sym (append-nil (post_order e)))
node_last (is_null_of e) = ap (λ ns. ns ++ is_null_of e ∷ []) (sym (append-nil (post_order e)))
node_last (like e p negated fold_case) =
    sym (append_assoc (post_order e) (post_order p) (like e p negated fold_case ∷ [])) ∙ ap (λ ns. (post_order e ++ ns) ++ like e p negated fold_case ∷ []) (sym (append-nil (post_order p)))
node_last (between e lower upper options) =
    ap (λ ns. post_order e ++ ns) (sym (append_assoc (post_order lower) (post_order upper) (between e lower upper options ∷ [])))
    ∙ sym (append_assoc (post_order e) (post_order lower ++ post_order upper) (between e lower upper options ∷ []))
    ∙ ap (λ ns. (post_order e ++ (post_order lower ++ ns)) ++ between e lower upper options ∷ []) (sym (append-nil (post_order upper)))
node_last (cast e t) = ap (λ ns. ns ++ cast e t ∷ []) (sym (append-nil (post_order e)))
node_last (list_contains l v) =
    sym (append_assoc (post_order l) (post_order v) (list_contains l v ∷ [])) ∙ ap (λ ns. (post_order l ++ ns) ++ list_contains l v ∷ []) (sym (append-nil (post_order v)))
node_last (pack names es n) = ap (λ ds. post_order_all ds ++ pack names es n ∷ []) (sym (trees_of_listed es))
node_last (merge es n) = ap (λ ds. post_order_all ds ++ merge es n ∷ []) (sym (trees_of_listed es))
node_last (select s e) = ap (λ ns. ns ++ select s e ∷ []) (sym (append-nil (post_order e)))
node_last (dynamic e op k t default) = ap (λ ns. ns ++ dynamic e op k t default ∷ []) (sym (append-nil (post_order e)))

pub mapped_more : {A B : Type 0} (f : A → B) (xs ys : List A) (y : A) → ys ≡ xs ++ y ∷ [] → map f ys ≡ map f xs ++ f y ∷ []
mapped_more f xs ys y h = ap (map f) h ∙ map-append f xs (y ∷ [])

take_suc : (xs : List Tree) (i : ℕ) (x : Tree) → slice_get xs i ≡ Some x → take (suc i) xs ≡ take i xs ++ x ∷ []
take_suc [] i x at = absurd (none-some x at)
take_suc (y ∷ ys) zero x at = ap (λ z. z ∷ []) (same_Some y x at)
take_suc (y ∷ ys) (suc i) x at = ap (λ zs. y ∷ zs) (take_suc ys i x at)

-- a child more is put behind what is left
pub child_more : (left after more : List Tree) (e c : Tree) (i : ℕ) → slice_get (children_of e) i ≡ Some c → after ≡ left ++ take i (children_of e) → more ≡ after ++ c ∷ []
    → more ≡ left ++ take (i + 1) (children_of e)
child_more left after more e c i at h k =
    k ∙ ap (λ ds. ds ++ c ∷ []) h ∙ append_assoc left (take i (children_of e)) (c ∷ [])
    ∙ ap (λ ds. left ++ ds) (sym (take_suc (children_of e) i c at)) ∙ ap (λ k. left ++ take k (children_of e)) (sym (add-one i))

all_of : (xs : List Tree) (n i : ℕ) → n ≡ length xs → i ≤ n → n ≤ i → take i xs ≡ xs
all_of xs n i h j k = take_all i xs (omega (arith, h, j, k))

-- the nodes of what is left once a node gave way to its children
given_way : (left before after : List Tree) (e : Tree) (n i : ℕ) → before ≡ left ++ e ∷ [] → n ≡ length (children_of e) → i ≤ n → n ≤ i → after ≡ left ++ take i (children_of e)
    → post_order_all (trees_of before) ≡ post_order_all (trees_of after) ++ e ∷ []
unfolding post_order
given_way left before after e n i was many upto from is =
    let ns = post_order_all (trees_of left) in
    ap (λ ds. post_order_all (trees_of ds)) was ∙ all_append left (e ∷ [])
    ∙ ap (λ ms. ns ++ ms) (append-nil (post_order e) ∙ node_last e)
    ∙ sym (append_assoc ns (post_order_all (trees_of (children_of e))) (e ∷ []))
    ∙ ap (λ ms. ms ++ e ∷ []) (sym (all_append left (children_of e)))
    ∙ ap (λ ds. post_order_all (trees_of ds) ++ e ∷ []) (sym (is ∙ ap (λ ds. left ++ ds) (all_of (children_of e) n i many upto from)))

-- fewer nodes are left
pub fewer : (left before after : List Tree) (e : Tree) (n i : ℕ) → before ≡ left ++ e ∷ [] → n ≡ length (children_of e) → i ≤ n → n ≤ i → after ≡ left ++ take i (children_of e)
    → length (post_order_all (trees_of after)) < length (post_order_all (trees_of before))
fewer left before after e n i was many upto from is =
    let more : length (post_order_all (trees_of before)) ≡ length (post_order_all (trees_of after) ++ e ∷ []) = ap length (given_way left before after e n i was many upto from is) in
    omega (arith, more, length-append (post_order_all (trees_of after)) (e ∷ []))

-- what was found grows by the node
pub walked_on : (left before after found more : List Tree) (e whole : Tree) (n i : ℕ) → before ≡ left ++ e ∷ [] → n ≡ length (children_of e) → i ≤ n → n ≤ i
    → after ≡ left ++ take i (children_of e) → more ≡ found ++ e ∷ [] → post_order_all (trees_of before) ++ reverse found ≡ post_order whole
    → post_order_all (trees_of after) ++ reverse more ≡ post_order whole
walked_on left before after found more e whole n i was many upto from is grown known =
    ap (λ ds. post_order_all (trees_of after) ++ reverse ds) grown
    ∙ ap (λ ds. post_order_all (trees_of after) ++ ds) (reverse-append found (e ∷ []))
    ∙ sym (append_assoc (post_order_all (trees_of after)) (e ∷ []) (reverse found))
    ∙ ap (λ ds. ds ++ reverse found) (sym (given_way left before after e n i was many upto from is))
    ∙ known

pub alone : (e : Tree) → post_order_all (trees_of (e ∷ [])) ++ [] ≡ post_order e
unfolding post_order
alone e = append-nil (post_order e ++ []) ∙ append-nil (post_order e)

map-reverse : {A B : Type 0} (f : A → B) (xs : List A) → map f (reverse xs) ≡ reverse (map f xs)
map-reverse f [] = refl
map-reverse f (x ∷ xs) = ap (map f) (reverse-append (x ∷ []) xs) ∙ map-append f (reverse xs) (x ∷ []) ∙ ap (λ ys. ys ++ f x ∷ []) (map-reverse f xs) ∙ sym (reverse-append (f x ∷ []) (map f xs))

-- nothing is left, so what was found, turned round, is the whole
pub all_found : {A : Type 0} (f : A → Tree) (left found turned : List A) (whole : Tree) → left ≡ [] → turned ≡ reverse found
    → post_order_all (trees_of (map f left)) ++ reverse (map f found) ≡ post_order whole → map f turned ≡ post_order whole
unfolding post_order
all_found f left found turned whole none is known =
    ap (map f) is ∙ map-reverse f found ∙ ap (λ ds. post_order_all (trees_of (map f ds)) ++ reverse (map f found)) (sym none) ∙ known

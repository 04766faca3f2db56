-- The number of an expression's nodes by its parts, and each node of one and the same kind of fact.
use Rattle.std.proofs.Common.{◌≡◌, ℕ, ◌+◌, ◌*◌, refl, sym, ◌∙◌, List, [], ◌∷◌, ◌++◌, length, suc-mul, zero-mul, arith}
use Rattle.std.specs.List.{AllByRecursion}
use Rattle.vx_expr.specs.Trees.{Tree, root, literal, get_item, binary, not_of, is_null_of, like, between, cast, list_contains, pack, merge, select, dynamic, Trees, no_trees, tree}
use Rattle.vx_semantics.specs.Nodes.{nodes_of, nodes_of_all}

unfoldable mutual
  -- the nodes of an expression, each counted this many times
  pub weight : ℕ → Tree → ℕ
  weight k root = k
  weight k (literal s) = k
  weight k (get_item f e) = k + weight k e
  weight k (binary l op r) = k + (weight k l + weight k r)
  weight k (not_of e) = k + weight k e
  weight k (is_null_of e) = k + weight k e
  weight k (like e p negated fold_case) = k + (weight k e + weight k p)
  weight k (between e lower upper options) = k + (weight k e + (weight k lower + weight k upper))
  weight k (cast e t) = k + weight k e
  weight k (list_contains l v) = k + (weight k l + weight k v)
  weight k (pack names es n) = k + weights k es
  weight k (merge es n) = k + weights k es
  weight k (select s e) = k + weight k e
  weight k (dynamic e op slot t default) = k + weight k e

  pub weights : ℕ → Trees → ℕ
  weights k no_trees = 0
  weights k (tree e es) = weight k e + weights k es

-- the nodes counted once
abbrev pub size : Tree → ℕ
size e = weight 1 e

abbrev pub sizes : Trees → ℕ
sizes es = weights 1 es

-- a list's length this many times
times : {X : Type 0} → ℕ → List X → ℕ
times k [] = 0
times k (x ∷ xs) = k + times k xs

times-append : {X : Type 0} (k : ℕ) (xs ys : List X) → times k (xs ++ ys) ≡ times k xs + times k ys
unfolding times
times-append k [] ys = omega arith
times-append k (x ∷ xs) ys = let e = times-append k xs ys in omega (arith, e)

times-length : {X : Type 0} (k : ℕ) (xs : List X) → times k xs ≡ length xs * k
unfolding times
times-length k [] = sym (zero-mul k)
times-length k (x ∷ xs) = let e = times-length k xs in let f = suc-mul (length xs) k in omega (arith, e, f)

mutual
  unfolding weight nodes_of times

  weighed : (k : ℕ) (e : Tree) → weight k e ≡ times k (nodes_of e)
  weighed k root = omega arith
  weighed k (literal s) = omega arith
  weighed k (get_item f e) = let a = weighed k e in omega (arith, a)
  weighed k (binary l op r) = let a = weighed k l in let b = weighed k r in let c = times-append k (nodes_of l) (nodes_of r) in omega (arith, a, b, c)
  weighed k (not_of e) = let a = weighed k e in omega (arith, a)
  weighed k (is_null_of e) = let a = weighed k e in omega (arith, a)
  weighed k (like e p negated fold_case) = let a = weighed k e in let b = weighed k p in let c = times-append k (nodes_of e) (nodes_of p) in omega (arith, a, b, c)
  weighed k (between e lower upper options) =
      let a = weighed k e in
      let b = weighed k lower in
      let c = weighed k upper in
      let d = times-append k (nodes_of lower) (nodes_of upper) in
      let f = times-append k (nodes_of e) (nodes_of lower ++ nodes_of upper) in
      omega (arith, a, b, c, d, f)
  weighed k (cast e t) = let a = weighed k e in omega (arith, a)
  weighed k (list_contains l v) = let a = weighed k l in let b = weighed k v in let c = times-append k (nodes_of l) (nodes_of v) in omega (arith, a, b, c)
  weighed k (pack names es n) = let a = all-weighed k es in omega (arith, a)
  weighed k (merge es n) = let a = all-weighed k es in omega (arith, a)
  weighed k (select s e) = let a = weighed k e in omega (arith, a)
  weighed k (dynamic e op slot t default) = let a = weighed k e in omega (arith, a)

  all-weighed : (k : ℕ) (es : Trees) → weights k es ≡ times k (nodes_of_all es)
  all-weighed k no_trees = refl
  all-weighed k (tree e es) = let a = weighed k e in let b = all-weighed k es in let c = times-append k (nodes_of e) (nodes_of_all es) in omega (arith, a, b, c)

-- the weight is that of so many nodes
pub weight-count : (k : ℕ) (e : Tree) → weight k e ≡ length (nodes_of e) * k
weight-count k e = weighed k e ∙ times-length k (nodes_of e)

one-each : {X : Type 0} (xs : List X) → times 1 xs ≡ length xs
unfolding times
one-each [] = refl
one-each (x ∷ xs) = let e = one-each xs in omega (arith, e)

pub size-count : (e : Tree) → size e ≡ length (nodes_of e)
size-count e = weighed 1 e ∙ one-each (nodes_of e)

-- ---- what holds of each of a list

abbrev pub Each : {X : Type 0} → (X → Type 0) → List X → Type 0
Each P xs = AllByRecursion P xs

pub each-append : {X : Type 0} (P : X → Type 0) (xs ys : List X) → Each P xs → Each P ys → Each P (xs ++ ys)
each-append P [] ys h k = k
each-append P (x ∷ xs) ys h k = (h.0, each-append P xs ys h.1 k)

pub each-split : {X : Type 0} (P : X → Type 0) (xs ys : List X) → Each P (xs ++ ys) → Each P xs × Each P ys
each-split P [] ys h = (tt, h)
each-split P (x ∷ xs) ys h = let p = each-split P xs ys h.1 in ((h.0, p.0), p.1)

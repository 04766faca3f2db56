-- The conjuncts of a stack of expressions, which a loop takes apart from its end.
use Rattle.std.proofs.Common.{◌≡◌, ◌<◌, ℕ, ◌+◌, arith, List, [], ◌∷◌, ◌++◌, map, length, refl, ap, sym, ◌∙◌, append_assoc, append-nil}
use Rattle.std.proofs.lemmas.List.{length-append}
use Rattle.vx_expr.specs.declared.Operator.{Operator}
use Rattle.vx_expr.specs.Conjuncts.{conjuncts_of}
use Rattle.vx_expr.specs.PostOrders.{post_order, post_order_all}
use Rattle.vx_expr.specs.Trees.{Tree, binary, trees_of, children_of}
use Rattle.vx_expr.proofs.PostOrderLemmas.{node_last}

-- the conjuncts of those left, the last one first
abbrev pub stacked : List Tree → List Tree
stacked [] = []
stacked (e ∷ es) = stacked es ++ conjuncts_of e

-- how many nodes are left
abbrev pub nodes_left : List Tree → ℕ
nodes_left [] = 0
nodes_left (e ∷ es) = length (post_order e) + nodes_left es

stacked_last : (es : List Tree) (e : Tree) → stacked (es ++ e ∷ []) ≡ conjuncts_of e ++ stacked es
stacked_last [] e = sym (append-nil (conjuncts_of e))
stacked_last (d ∷ es) e = ap (λ ds. ds ++ conjuncts_of d) (stacked_last es e) ∙ append_assoc (conjuncts_of e) (stacked es) (conjuncts_of d)

nodes_last : (es : List Tree) (e : Tree) → nodes_left (es ++ e ∷ []) ≡ length (post_order e) + nodes_left es
nodes_last [] e = refl
nodes_last (d ∷ es) e = omega (arith, nodes_last es e)

has_nodes : (e : Tree) → 0 < length (post_order e)
has_nodes e =
    let more : length (post_order e) ≡ length (post_order_all (trees_of (children_of e)) ++ e ∷ []) = ap length (node_last e) in
    omega (arith, more, length-append (post_order_all (trees_of (children_of e))) (e ∷ []))

more_nodes : (l r : Tree) (op : Operator) → length (post_order l) + length (post_order r) < length (post_order (binary l op r))
unfolding post_order
more_nodes l r op = omega (arith, length-append (post_order l) (post_order r ++ binary l op r ∷ []), length-append (post_order r) (binary l op r ∷ []))

conjuncts_of_and : (l r : Tree) → conjuncts_of (binary l Operator.And r) ≡ conjuncts_of l ++ conjuncts_of r
unfolding conjuncts_of
conjuncts_of_and l r = refl

mapped_last : {A : Type 0} (f : A → Tree) (xs : List A) (y : A) → map f (xs ++ y ∷ []) ≡ map f xs ++ f y ∷ []
mapped_last f [] y = refl
mapped_last f (x ∷ xs) y = ap (λ ds. f x ∷ ds) (mapped_last f xs y)

-- an expression more on the stack
pub pushed : {A : Type 0} (f : A → Tree) (xs ys : List A) (y : A) → ys ≡ xs ++ y ∷ [] → map f ys ≡ map f xs ++ f y ∷ []
pushed f xs ys y h = ap (map f) h ∙ mapped_last f xs y

-- the last one, taken off, is an `and`, whose operands are left in its place, the left one last
module _ (rest before mid after : List Tree) (e l r : Tree) (was : before ≡ rest ++ e ∷ []) (right : mid ≡ rest ++ r ∷ []) (left : after ≡ mid ++ l ∷ []) (is : e ≡ binary l Operator.And r) where
  pub apart_same : stacked after ≡ stacked before
  apart_same =
      ap stacked left ∙ stacked_last mid l ∙ ap (λ ds. conjuncts_of l ++ stacked ds) right ∙ ap (λ ds. conjuncts_of l ++ ds) (stacked_last rest r)
      ∙ sym (append_assoc (conjuncts_of l) (conjuncts_of r) (stacked rest))
      ∙ ap (λ ds. ds ++ stacked rest) (sym (conjuncts_of_and l r)) ∙ ap (λ d. conjuncts_of d ++ stacked rest) (sym is)
      ∙ sym (stacked_last rest e) ∙ ap stacked (sym was)

  pub apart_fewer : nodes_left after < nodes_left before
  apart_fewer =
      let whole : length (post_order e) ≡ length (post_order (binary l Operator.And r)) = ap (λ d. length (post_order d)) is in
      let first : nodes_left after ≡ length (post_order l) + nodes_left mid = ap nodes_left left ∙ nodes_last mid l in
      let second : nodes_left mid ≡ length (post_order r) + nodes_left rest = ap nodes_left right ∙ nodes_last rest r in
      let all : nodes_left before ≡ length (post_order e) + nodes_left rest = ap nodes_left was ∙ nodes_last rest e in
      omega (arith, whole, first, second, all, more_nodes l r Operator.And)

-- the last one, taken off, is its only conjunct
pub alone_found : (found more rest before whole : List Tree) (e d : Tree) → before ≡ rest ++ e ∷ [] → conjuncts_of e ≡ e ∷ [] → d ≡ e → more ≡ found ++ d ∷ []
    → found ++ stacked before ≡ whole → more ++ stacked rest ≡ whole
alone_found found more rest before whole e d was alone same grown known =
    ap (λ ds. ds ++ stacked rest) (grown ∙ ap (λ c. found ++ c ∷ []) same) ∙ append_assoc found (e ∷ []) (stacked rest)
    ∙ ap (λ ds. found ++ (ds ++ stacked rest)) (sym alone) ∙ ap (λ ds. found ++ ds) (sym (stacked_last rest e) ∙ ap stacked (sym was)) ∙ known

pub alone_fewer : (rest before : List Tree) (e : Tree) → before ≡ rest ++ e ∷ [] → nodes_left rest < nodes_left before
alone_fewer rest before e was =
    let all : nodes_left before ≡ length (post_order e) + nodes_left rest = ap nodes_left was ∙ nodes_last rest e in
    omega (arith, all, has_nodes e)

pub none_left : {A : Type 0} (f : A → Tree) (left : List A) (found whole : List Tree) → left ≡ [] → found ++ stacked (map f left) ≡ whole → found ≡ whole
none_left f left found whole none known = sym (append-nil found) ∙ ap (λ ds. found ++ stacked (map f ds)) (sym none) ∙ known

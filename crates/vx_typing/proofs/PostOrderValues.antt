-- Values of expressions, made from the leaves up: each node's over those of its children, which stand at the end of what is made.
use Rattle.std.proofs.Common.{◌≡◌, ℕ, ◌+◌, ◌<◌, ◌≤◌, arith, List, [], ◌∷◌, ◌++◌, length, map, take, drop, get_or, ap, sym, ◌∙◌, subst, length-append}
use Rattle.std.specs.List.{AllZip}
use Rattle.std.proofs.lemmas.List.{drop_all, drop_more}
use Rattle.std.proofs.lemmas.Slice.Zip.{AllZip-long}
use Rattle.vx_expr.specs.PostOrders.{post_order}
use Rattle.vx_expr.specs.Trees.{Tree, children_of}
use Rattle.vx_expr.proofs.PostOrderLemmas.{Builds, Every, built, first_bad}

last_alone : {X : Type 0} (xs : List X) (x v : X) → v ∷ [] ≡ xs ++ x ∷ [] → v ≡ x
last_alone [] x v h = cc
last_alone (y ∷ []) x v h = let no : ⊥ = cc in absurd no
last_alone (y ∷ z ∷ xs) x v h = let no : ⊥ = cc in absurd no

-- the nodes from a place on are the one there and those behind it, and past the last there are none
pub node_here : {A : Type 0} (see : A → Tree) (xs : List A) (i : ℕ) (x : A) → i < length xs → x ≡ get_or xs i x → map see (drop i xs) ≡ see x ∷ map see (drop (i + 1) xs)
node_here see xs i x within is = ap (map see) (drop_more xs i x within ∙ ap (λ y. y ∷ drop (i + 1) xs) (sym is))

pub none_left : {A : Type 0} (see : A → Tree) (xs : List A) (i : ℕ) → length xs ≤ i → map see (drop i xs) ≡ []
none_left see xs i past = ap (map see) (drop_all i xs past)

module _ {X : Type 0} (IsOf : Tree → X → Type 0) where
  -- ---- values of a list of expressions

  pub first_value : (e : Tree) (es : List Tree) (xs : List X) (x : X) → AllZip IsOf (e ∷ es) xs → x ≡ get_or xs 0 x → IsOf e x
  first_value e es [] x h is = absurd h
  first_value e es (y ∷ xs) x h is = subst (IsOf e) (sym is) h.0

  pub second_value : (e d : Tree) (es : List Tree) (xs : List X) (x : X) → AllZip IsOf (e ∷ d ∷ es) xs → x ≡ get_or xs 1 x → IsOf d x
  second_value e d es [] x h is = absurd h
  second_value e d es (y ∷ xs) x h is = first_value d es xs x h.1 is

  pub third_value : (e d c : Tree) (es : List Tree) (xs : List X) (x : X) → AllZip IsOf (e ∷ d ∷ c ∷ es) xs → x ≡ get_or xs 2 x → IsOf c x
  third_value e d c es [] x h is = absurd h
  third_value e d c es (y ∷ xs) x h is = second_value d c es xs x h.1 is

  before_cut : (es ds : List Tree) (xs : List X) → AllZip IsOf (es ++ ds) xs → AllZip IsOf es (take (length es) xs)
  before_cut [] ds xs h = tt
  before_cut (e ∷ es) ds [] h = absurd h
  before_cut (e ∷ es) ds (x ∷ xs) h = (h.0, before_cut es ds xs h.1)

  behind_cut : (es ds : List Tree) (xs : List X) → AllZip IsOf (es ++ ds) xs → AllZip IsOf ds (drop (length es) xs)
  behind_cut [] ds xs h = h
  behind_cut (e ∷ es) ds [] h = absurd h
  behind_cut (e ∷ es) ds (x ∷ xs) h = behind_cut es ds xs h.1

  pushed : (es : List Tree) (xs : List X) (e : Tree) (x : X) → AllZip IsOf es xs → IsOf e x → AllZip IsOf (es ++ e ∷ []) (xs ++ x ∷ [])
  pushed [] [] e x h is = (is, tt)
  pushed [] (y ∷ xs) e x h is = absurd h
  pushed (d ∷ es) [] e x h is = absurd h
  pushed (d ∷ es) (y ∷ xs) e x h is = (h.0, pushed es xs e x h.1 is)

  -- ---- a loop over the nodes

  -- the values are those of expressions of which the nodes that are left make one
  abbrev pub Made : List Tree → List X → Tree → Type 0
  Made nodes xs e = (made : List Tree) × AllZip IsOf made xs × Builds nodes made e

  pub begun : (e : Tree) (nodes : List Tree) (xs : List X) → nodes ≡ post_order e → xs ≡ [] → Made nodes xs e
  begun e nodes xs are none = ([], subst (AllZip IsOf []) (sym none) tt, subst (λ ns. Builds ns [] e) (sym are) (built e))

  ended_as : (e : Tree) (made : List Tree) (xs ys : List X) (x : X) → made ≡ e ∷ [] → AllZip IsOf made xs → xs ≡ ys ++ x ∷ [] → IsOf e x
  ended_as e [] xs ys x h values is = let no : ⊥ = cc in absurd no
  ended_as e (d ∷ c ∷ made) xs ys x h values is = let no : ⊥ = cc in absurd no
  ended_as e (d ∷ []) [] ys x h values is = absurd values
  ended_as e (d ∷ []) (v ∷ w ∷ xs) ys x h values is = absurd values.1
  ended_as e (d ∷ []) (v ∷ []) ys x h values is =
      let same : d ≡ e = cc in subst (λ c. IsOf c x) same (subst (IsOf d) (last_alone ys x v is) values.0)

  module _ {left : List Tree} (xs : List X) (e : Tree) (none : left ≡ []) (so_far : Made left xs e) where
    at_end : Made [] xs e
    at_end = subst (λ ns. Made ns xs e) none so_far

    -- where no node is left the expression's value is the one value
    pub ended : (ys : List X) (x : X) → xs ≡ ys ++ x ∷ [] → IsOf e x
    ended ys x is = ended_as e at_end.0 xs ys x at_end.2 at_end.1 is

    pub one_made : length xs ≡ 1
    one_made = AllZip-long IsOf at_end.0 xs at_end.1 ∙ ap length at_end.2

  module _ {left behind : List Tree} {n : Tree} (xs : List X) (e : Tree) (here : left ≡ n ∷ behind) (so_far : Made left xs e) where
    at_node : Made (n ∷ behind) xs e
    at_node = subst (λ ns. Made ns xs e) here so_far

    cut_there : AllZip IsOf (at_node.2.0 ++ children_of n) xs
    cut_there = subst (λ es. AllZip IsOf es xs) at_node.2.1 at_node.1

    long : length xs ≡ length at_node.2.0 + length (children_of n)
    long = AllZip-long IsOf (at_node.2.0 ++ children_of n) xs cut_there ∙ length-append at_node.2.0 (children_of n)

    -- there are as many values as the node has children
    pub enough : length (children_of n) ≤ length xs
    enough = omega (arith, long)

    cut_at : (k : ℕ) → k + length (children_of n) ≡ length xs → length at_node.2.0 ≡ k
    cut_at k h = omega (arith, long, h)

    -- and those at the end are the children's
    operands : (k : ℕ) → k + length (children_of n) ≡ length xs → AllZip IsOf (children_of n) (drop k xs)
    operands k h = subst (λ m. AllZip IsOf (children_of n) (drop m xs)) (cut_at k h) (behind_cut at_node.2.0 (children_of n) xs cut_there)

    pub operands_taken : (k : ℕ) (taken : List X) → k + length (children_of n) ≡ length xs → taken ≡ drop k xs → AllZip IsOf (children_of n) taken
    operands_taken k taken h are = subst (AllZip IsOf (children_of n)) (sym are) (operands k h)

    -- the node's value stands in their place
    pub goes_on : (k : ℕ) (kept more : List X) (x : X) → k + length (children_of n) ≡ length xs → kept ≡ take k xs → more ≡ kept ++ x ∷ [] → IsOf n x → Made behind more e
    goes_on k kept more x h are is value =
        let others : AllZip IsOf at_node.2.0 kept =
        subst (AllZip IsOf at_node.2.0) (ap (λ m. take m xs) (cut_at k h) ∙ sym are) (before_cut at_node.2.0 (children_of n) xs cut_there) in
        (at_node.2.0 ++ n ∷ [], subst (AllZip IsOf (at_node.2.0 ++ n ∷ [])) (sym is) (pushed at_node.2.0 kept n x others value), at_node.2.2)

    every_fine : (Fine : Tree → Type 0) → ((d : Tree) (x : X) → IsOf d x → Fine d) → (es : List Tree) (ys : List X) → AllZip IsOf es ys → Every Fine es
    every_fine Fine fine [] ys h = tt
    every_fine Fine fine (d ∷ es) [] h = absurd h
    every_fine Fine fine (d ∷ es) (y ∷ ys) h = (fine d y h.0, every_fine Fine fine es ys h.1)

    -- what is bad of the node is bad of the expression, where it is bad of each node whose first bad child comes after none but fine ones
    pub fails : (Fine Bad : Tree → Type 0)
        → ((d : Tree) (before : List Tree) (c : Tree) (after : List Tree) → children_of d ≡ before ++ c ∷ after → Every Fine before → Bad c → Bad d)
        → ((d : Tree) (x : X) → IsOf d x → Fine d) → Bad n → Bad e
    fails Fine Bad up fine bad =
        first_bad Fine Bad up behind at_node.2.0 n [] e at_node.2.2
        (every_fine Fine fine at_node.2.0 (take (length at_node.2.0) xs) (before_cut at_node.2.0 (children_of n) xs cut_there)) bad

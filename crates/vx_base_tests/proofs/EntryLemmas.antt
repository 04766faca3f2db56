-- A walk that writes each node's number down before and after its children writes down what it meets, up to the first 0.
use Rattle.std.proofs.Common.{◌≡◌, ℕ, zero, suc, List, [], ◌∷◌, ◌++◌, Bool, true, false, cond, refl, ap, sym, ◌∙◌, subst, append_assoc}
use Rattle.std.specs.Prelude.{◌==◌, Result, Ok, Err}
use Rattle.std.specs.List.{flat_map}
use Rattle.vx_traversal.specs.declared.order.TraversalOrder.{TraversalOrder}
use Rattle.vx_traversal.specs.declared.order.TraversalOrder.TheVariants.{Skip, Stop, Continue}
use Rattle.vx_traversal.specs.Visits.{Step, InTurn, AfterChildren, VisitsBelow}
use Rattle.vx_base_tests.specs.Numbers.{NumberTree, number, NumberTrees, no_trees, tree_before, list_of_trees, number_at, trees_below}
use Rattle.vx_base_tests.specs.Entries.{met_numbers, met_in, before_zero, order_after, Writes}

append_nil : (xs : List ℕ) → xs ++ [] ≡ xs
append_nil [] = refl
append_nil (x ∷ xs) = ap (λ ys. x ∷ ys) (append_nil xs)

stop_goes : Stop ≡ Continue → ⊥
stop_goes e = cc

goes_stop : Continue ≡ Stop → ⊥
goes_stop e = cc

-- numbers without a 0 go on to those after them
order_goes : (xs ys : List ℕ) → order_after xs ≡ Continue → order_after (xs ++ ys) ≡ order_after ys
order_goes [] ys e = refl
order_goes (n ∷ xs) ys e = past (n == 0) (order_after xs) (order_after (xs ++ ys)) (order_goes xs ys) e
  where
    past : (b : Bool) (p q : TraversalOrder) → (p ≡ Continue → q ≡ order_after ys) → cond b Stop p ≡ Continue → cond b Stop q ≡ order_after ys
    past true p q f e' = absurd (stop_goes e')
    past false p q f e' = f e'

before_goes : (xs ys : List ℕ) → order_after xs ≡ Continue → before_zero (xs ++ ys) ≡ before_zero xs ++ before_zero ys
before_goes [] ys e = refl
before_goes (n ∷ xs) ys e = past (n == 0) (order_after xs) (before_zero (xs ++ ys)) (before_zero xs) (before_goes xs ys) e
  where
    past : (b : Bool) (p : TraversalOrder) (all first : List ℕ) → (p ≡ Continue → all ≡ first ++ before_zero ys) → cond b Stop p ≡ Continue → cond b [] (n ∷ all) ≡ cond b [] (n ∷ first) ++ before_zero ys
    past true p all first f e' = absurd (stop_goes e')
    past false p all first f e' = ap (λ ns. n ∷ ns) (f e')

-- after numbers with a 0 nothing more counts
order_stops : (xs ys : List ℕ) → order_after xs ≡ Stop → order_after (xs ++ ys) ≡ Stop
order_stops [] ys e = absurd (goes_stop e)
order_stops (n ∷ xs) ys e = past (n == 0) (order_after xs) (order_after (xs ++ ys)) (order_stops xs ys) e
  where
    past : (b : Bool) (p q : TraversalOrder) → (p ≡ Stop → q ≡ Stop) → cond b Stop p ≡ Stop → cond b Stop q ≡ Stop
    past true p q f e' = refl
    past false p q f e' = f e'

before_stops : (xs ys : List ℕ) → order_after xs ≡ Stop → before_zero (xs ++ ys) ≡ before_zero xs
before_stops [] ys e = absurd (goes_stop e)
before_stops (n ∷ xs) ys e = past (n == 0) (order_after xs) (before_zero (xs ++ ys)) (before_zero xs) (before_stops xs ys) e
  where
    past : (b : Bool) (p : TraversalOrder) (all first : List ℕ) → (p ≡ Stop → all ≡ first) → cond b Stop p ≡ Stop → cond b [] (n ∷ all) ≡ cond b [] (n ∷ first)
    past true p all first f e' = refl
    past false p all first f e' = ap (λ ns. n ∷ ns) (f e')

never_skips : (xs : List ℕ) → Skip ≡ order_after xs → ⊥
never_skips [] e = cc
never_skips (n ∷ xs) e = past (n == 0) (order_after xs) (never_skips xs) e
  where
    past : (b : Bool) (p : TraversalOrder) → (Skip ≡ p → ⊥) → Skip ≡ cond b Stop p → ⊥
    past true p f e' = cc
    past false p f e' = f e'

met_listed : (ts : NumberTrees) → flat_map met_numbers (list_of_trees ts) ≡ met_in ts
met_listed no_trees = refl
met_listed (tree_before t ts) = ap (λ ns. met_numbers t ++ ns) (met_listed ts)

-- what a walk meets in a tree is its number, what it meets below, and the number again
met_of_node : (t : NumberTree) → number_at t ∷ (flat_map met_numbers (trees_below t) ++ number_at t ∷ []) ≡ met_numbers t
met_of_node (number n ts) = ap (λ ns. n ∷ (ns ++ n ∷ [])) (met_listed ts)

stop_writes : (E : Type 0) (xs ys a b : List ℕ) → Writes {E = E} xs a (Ok Stop) b → Writes {E = E} (xs ++ ys) a (Ok Stop) b
stop_writes E xs ys a b (stops, is) = (sym (order_stops xs ys (sym stops)), is ∙ ap (λ held. a ++ held) (sym (before_stops xs ys (sym stops))))

module _ {E : Type 0} where
  -- the step at a node, before and after its children
  abbrev pub WritesOwn : Step (List ℕ) NumberTree E
  WritesOwn before node answer after = Writes (number_at node ∷ []) before answer after

  -- the visit of a whole tree
  abbrev pub WritesAll : Step (List ℕ) NumberTree E
  WritesAll before node answer after = Writes (met_numbers node) before answer after

  then_writes : (xs ys a b : List ℕ) (r : Result TraversalOrder E) (t : List ℕ) → Writes {E = E} xs a (Ok Continue) b → Writes ys b r t → Writes (xs ++ ys) a r t
  then_writes xs ys a b (Ok order) t (goes, is) (next, then) = (
    next ∙ sym (order_goes xs ys (sym goes)),
    then ∙ (ap (λ held. held ++ before_zero ys) is ∙ (append_assoc a (before_zero xs) (before_zero ys) ∙ ap (λ held. a ++ held) (sym (before_goes xs ys (sym goes))))),
  )
  then_writes xs ys a b (Err e) t first second = tt

  -- a walk that ended at a 0 among the first
  ended : (xs ys a b : List ℕ) (r : Result TraversalOrder E) (t : List ℕ) → Writes {E = E} xs a (Ok Stop) b → r ≡ Ok Stop → t ≡ b → Writes (xs ++ ys) a r t
  ended xs ys a b r t stops is same =
      subst (λ (q : Result TraversalOrder E). Writes (xs ++ ys) a q t) (sym is) (subst (λ held. Writes {E = E} (xs ++ ys) a (Ok Stop) held) (sym same) (stop_writes E xs ys a b stops))

  errors : (xs a : List ℕ) (e : E) (r : Result TraversalOrder E) (t : List ℕ) → r ≡ Err e → Writes xs a r t
  errors xs a e r t is = subst (λ (q : Result TraversalOrder E). Writes xs a q t) (sym is) tt

  same_writes : (xs ys a : List ℕ) (r : Result TraversalOrder E) (t : List ℕ) → xs ≡ ys → Writes xs a r t → Writes ys a r t
  same_writes xs ys a r t is = subst (λ ns. Writes ns a r t) is

  -- the children in turn
  in_turn : (Each : Step (List ℕ) NumberTree E) → ((s : List ℕ) (n : NumberTree) (r : Result TraversalOrder E) (t : List ℕ) → Each s n r t → WritesAll s n r t) →
      (ns : List NumberTree) (s : List ℕ) (r : Result TraversalOrder E) (t : List ℕ) → InTurn Each Continue s ns r t → Writes (flat_map met_numbers ns) s r t
  in_turn Each each [] s r t (is, same) = subst (λ (q : Result TraversalOrder E). Writes [] s q t) (sym is) (refl, same ∙ sym (append_nil s))
  in_turn Each each (n ∷ ns) s r t (Err e, u, step, (is, same)) = errors (flat_map met_numbers (n ∷ ns)) s e r t is
  in_turn Each each (n ∷ ns) s r t (Ok Stop, u, step, (is, same)) = ended (met_numbers n) (flat_map met_numbers ns) s u r t (each s n (Ok Stop) u step) is same
  in_turn Each each (n ∷ ns) s r t (Ok Skip, u, step, rest) = absurd (never_skips (met_numbers n) (each s n (Ok Skip) u step).0)
  in_turn Each each (n ∷ ns) s r t (Ok Continue, u, step, rest) =
      then_writes (met_numbers n) (flat_map met_numbers ns) s u r t (each s n (Ok Continue) u step) (in_turn Each each ns u r t rest)

  after_children : (n : NumberTree) (xs s : List ℕ) (q : Result TraversalOrder E) (u : List ℕ) (r : Result TraversalOrder E) (t : List ℕ) →
      Writes xs s q u → AfterChildren trees_below WritesOwn WritesOwn n q u r t → Writes (xs ++ number_at n ∷ []) s r t
  after_children n xs s (Err e) u r t turns (is, same) = errors (xs ++ number_at n ∷ []) s e r t is
  after_children n xs s (Ok Stop) u r t turns (is, same) = ended xs (number_at n ∷ []) s u r t turns is same
  after_children n xs s (Ok Skip) u r t turns rest = absurd (never_skips xs turns.0)
  after_children n xs s (Ok Continue) u r t turns rest = then_writes xs (number_at n ∷ []) s u r t turns rest

  -- the visit of a tree writes down what a walk meets there
  pub visit-writes : (k : ℕ) (s : List ℕ) (n : NumberTree) (r : Result TraversalOrder E) (t : List ℕ) → VisitsBelow trees_below WritesOwn WritesOwn k s n r t → WritesAll s n r t
  visit-writes zero s n r t w = absurd w
  visit-writes (suc k) s n r t (Err e, u, step, (is, same)) = errors (met_numbers n) s e r t is
  visit-writes (suc k) s n r t (Ok Stop, u, step, (is, same)) =
      same_writes (number_at n ∷ (flat_map met_numbers (trees_below n) ++ number_at n ∷ [])) (met_numbers n) s r t (met_of_node n)
      (ended (number_at n ∷ []) (flat_map met_numbers (trees_below n) ++ number_at n ∷ []) s u r t step is same)
  visit-writes (suc k) s n r t (Ok Skip, u, step, rest) = absurd (never_skips (number_at n ∷ []) step.0)
  visit-writes (suc k) s n r t (Ok Continue, u, step, (q, v, turns, rest)) =
      let below : Writes (flat_map met_numbers (trees_below n)) u q v = in_turn (VisitsBelow trees_below WritesOwn WritesOwn k) (visit-writes k) (trees_below n) u q v turns in
      let then_up : Writes (flat_map met_numbers (trees_below n) ++ number_at n ∷ []) u r t = after_children n (flat_map met_numbers (trees_below n)) u q v r t below rest in
      same_writes (number_at n ∷ (flat_map met_numbers (trees_below n) ++ number_at n ∷ [])) (met_numbers n) s r t (met_of_node n)
      (then_writes (number_at n ∷ []) (flat_map met_numbers (trees_below n) ++ number_at n ∷ []) s u r t step then_up)

-- what a visit that ends well has written down
pub visit-written : {E : Type 0} (k : ℕ) (s : List ℕ) (n : NumberTree) (r : Result TraversalOrder E) (order : TraversalOrder) (t : List ℕ) → s ≡ [] → r ≡ Ok order → VisitsBelow trees_below WritesOwn WritesOwn k s n r t → t ≡ before_zero (met_numbers n)
visit-written {E} k s n r order t empty is visit =
    let all : Writes {E = E} (met_numbers n) s (Ok order) t = subst (λ (q : Result TraversalOrder E). Writes (met_numbers n) s q t) is (visit-writes k s n r t visit) in
    all.1 ∙ ap (λ held. held ++ before_zero (met_numbers n)) empty

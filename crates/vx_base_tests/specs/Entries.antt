-- The numbers that a walk over a tree of numbers meets, and those of them that are written down.
use Rattle.std.specs.Prelude.{◌≡◌, ◌==◌, ℕ, List, [], ◌∷◌, ◌++◌, cond, Result, Ok, Err, ⊤}
use Rattle.vx_traversal.specs.declared.order.TraversalOrder.{TraversalOrder}
use Rattle.vx_traversal.specs.declared.order.TraversalOrder.TheVariants.{Stop, Continue}
use Rattle.vx_base_tests.specs.Numbers.{NumberTree, number, NumberTrees, no_trees, tree_before}

abbrev mutual
  -- the numbers as a walk meets them: each one before those below it, and again after them
  pub met_numbers : NumberTree → List ℕ
  met_numbers (number n ts) = n ∷ (met_in ts ++ n ∷ [])

  -- the same of trees in order
  pub met_in : NumberTrees → List ℕ
  met_in no_trees = []
  met_in (tree_before t ts) = met_numbers t ++ met_in ts

-- the numbers before the first 0
abbrev pub before_zero : List ℕ → List ℕ
before_zero [] = []
before_zero (n ∷ ns) = cond (n == 0) [] (n ∷ before_zero ns)

-- the order after numbers in turn: Stop where one of them is 0
abbrev pub order_after : List ℕ → TraversalOrder
order_after [] = Continue
order_after (n ∷ ns) = cond (n == 0) Stop (order_after ns)

-- the step that writes numbers down until one is 0; after want of memory nothing is said
abbrev pub Writes : {E : Type 0} → List ℕ → List ℕ → Result TraversalOrder E → List ℕ → Type 0
Writes numbers before (Ok order) after = (order ≡ order_after numbers) × (after ≡ before ++ before_zero numbers)
Writes numbers before (Err e) after = ⊤

-- A tree of numbers with 1 in place of each 0.
use Rattle.std.specs.Prelude.{◌≡◌, ◌==◌, ℕ, cond}
use Rattle.vx_traversal.specs.declared.order.TraversalOrder.TheVariants.{Continue}
use Rattle.vx_traversal.specs.declared.transform.Transformed.{Transformed}
use Rattle.vx_base_tests.specs.Numbers.{NumberTree, number, NumberTrees, no_trees, tree_before, number_at, renumbered}
use Rattle.vx_base_tests.specs.Zeros.{holds_zero}

-- 1 for 0, else the number itself
abbrev pub one_for_zero : ℕ → ℕ
one_for_zero n = cond (n == 0) 1 n

-- the tree with 1 for a 0 at its top
abbrev pub top_with_one : NumberTree → NumberTree
top_with_one t = renumbered (one_for_zero (number_at t)) t

abbrev mutual
  -- the tree with 1 in place of each 0
  pub with_ones : NumberTree → NumberTree
  with_ones (number n ts) = number (one_for_zero n) (all_with_ones ts)

  -- the same of trees in order
  pub all_with_ones : NumberTrees → NumberTrees
  all_with_ones no_trees = no_trees
  all_with_ones (tree_before t ts) = tree_before (with_ones t) (all_with_ones ts)

-- the tree with 1 in place of each 0, changed exactly where it has a 0
abbrev pub HasOnes : NumberTree → Transformed NumberTree → Type 0
HasOnes t made = made ≡ record { value = with_ones t; order = Continue; changed = holds_zero t }

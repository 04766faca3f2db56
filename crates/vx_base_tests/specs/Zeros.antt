-- Whether a tree of numbers has the number 0.
use Rattle.std.specs.Prelude.{◌==◌, Bool, false, ◌||◌}
use Rattle.vx_base_tests.specs.Numbers.{NumberTree, number, NumberTrees, no_trees, tree_before}

abbrev mutual
  -- whether the number or one below it is 0
  pub holds_zero : NumberTree → Bool
  holds_zero (number n ts) = (n == 0) || one_holds_zero ts

  pub one_holds_zero : NumberTrees → Bool
  one_holds_zero no_trees = false
  one_holds_zero (tree_before t ts) = holds_zero t || one_holds_zero ts

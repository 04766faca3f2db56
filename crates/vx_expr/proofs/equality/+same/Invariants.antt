use Rattle.std.proofs.Common.{◌≡◌, ◌≤◌, ◌+◌, ◌*◌, max, length, drop}
use Rattle.vx_expr.specs.Trees.{trees_of}
use Rattle.vx_expr.specs.Nodes.{node_tree, between_value, between_lower, between_upper, binary_left, binary_right, dynamic_left, like_child, like_pattern, contains_list, contains_value}
use Rattle.vx_expr.specs.Heights.{height, highest}
use Rattle.vx_expr.specs.Equal.{tree_eq, trees_eq}
use Rattle.vx_expr.proofs.equality.+same.Given as goal

-- four times the height of an expression, and two or three more than that of the highest child for the parts of a node
abbrev pub decreases-same : goal.decreases-same
decreases-same l = 4 * height l.left.now + 1

abbrev pub decreases-same_node : goal.decreases-same_node
decreases-same_node l = 4 * height (node_tree l.left.now)

abbrev pub decreases-same_between : goal.decreases-same_between
decreases-same_between l = 4 * max (height (between_value l.left.now)) (max (height (between_lower l.left.now)) (height (between_upper l.left.now))) + 2

abbrev pub decreases-same_binary : goal.decreases-same_binary
decreases-same_binary l = 4 * max (height (binary_left l.left.now)) (height (binary_right l.left.now)) + 2

abbrev pub decreases-same_dynamic : goal.decreases-same_dynamic
decreases-same_dynamic l = 4 * height (dynamic_left l.left.now) + 2

abbrev pub decreases-same_like : goal.decreases-same_like
decreases-same_like l = 4 * max (height (like_child l.left.now)) (height (like_pattern l.left.now)) + 2

abbrev pub decreases-same_contains : goal.decreases-same_contains
decreases-same_contains l = 4 * max (height (contains_list l.left.now)) (height (contains_value l.left.now)) + 2

abbrev pub decreases-same_pack : goal.decreases-same_pack
decreases-same_pack l = 4 * highest (trees_of l.left.now.values) + 3

abbrev pub decreases-same_list : goal.decreases-same_list
decreases-same_list l = 4 * highest (trees_of l.left.now) + 2

-- the loop goes down the left expression, and what is left to compare tells whether the two are the same
abbrev pub invariant-same-loop-x : goal.invariant-same-loop-x
invariant-same-loop-x l = (height l.first ≤ height l.left) × (tree_eq l.left l.right ≡ tree_eq l.first l.second)

abbrev pub decreases-same-loop-x : goal.decreases-same-loop-x
decreases-same-loop-x l = height l.first

-- what is left to compare
abbrev pub invariant-same_list-loop-i : goal.invariant-same_list-loop-i
invariant-same_list-loop-i l =
    (length l.left ≡ length l.right)
    × (trees_eq (trees_of l.left) (trees_of l.right) ≡ trees_eq (trees_of (drop l.i l.left)) (trees_of (drop l.i l.right)))

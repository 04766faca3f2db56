use Rattle.std.proofs.Common.{◌≡◌, ◌≤◌, ◌+◌, ◌*◌, max, fold, drop}
use Rattle.vx_expr.specs.Trees.{trees_of}
use Rattle.vx_expr.specs.Nodes.{node_tree, binary_left, binary_right}
use Rattle.vx_expr.specs.Heights.{height, highest}
use Rattle.vx_expr.specs.Feeds.{tree_feed, trees_feed}
use Rattle.vx_expr.proofs.equality.+feed.Given as goal

-- three times the height of an expression, and two more than that of the highest of a list
abbrev pub decreases-feed : goal.decreases-feed
decreases-feed g l = 3 * height l.expr.now + 1

abbrev pub decreases-feed_node : goal.decreases-feed_node
decreases-feed_node g l = 3 * height (node_tree l.expr.now)

abbrev pub decreases-feed_list : goal.decreases-feed_list
decreases-feed_list g l = 3 * highest (trees_of l.values.now) + 2

abbrev pub decreases-feed_operands : goal.decreases-feed_operands
decreases-feed_operands g l = 3 * max (height (binary_left l.node.now)) (height (binary_right l.node.now)) + 2

-- the loop goes down the expression, and what is left to feed makes up the whole
abbrev pub invariant-feed-loop-node : goal.invariant-feed-loop-node
invariant-feed-loop-node g l =
    (height l.rest ≤ height l.expr)
    × (fold g.H.Hasher.write l.fn.state (tree_feed l.expr) ≡ fold g.H.Hasher.write l.state (tree_feed l.rest))

abbrev pub decreases-feed-loop-node : goal.decreases-feed-loop-node
decreases-feed-loop-node g l = height l.rest

-- what is left to feed
abbrev pub invariant-feed_list-loop-i : goal.invariant-feed_list-loop-i
invariant-feed_list-loop-i g l =
    fold g.H.Hasher.write l.fn.state (trees_feed (trees_of l.values))
    ≡ fold g.H.Hasher.write l.state (trees_feed (trees_of (drop l.i l.values)))

use Rattle.std.proofs.Common.{◌≡◌, ◌++◌, map, reverse, take, length}
use Rattle.vx_expr.specs.PostOrders.{post_order, post_order_all}
use Rattle.vx_expr.specs.Trees.{trees_of, children_of}
use Rattle.vx_expr.proofs.expressions.ExprRef.post_order.Given as goal

abbrev pub invariant-loop-i : goal.invariant-loop-i
invariant-loop-i l = map (λ e. e.now) l.left.items ≡ map (λ e. e.now) l.initial.left.items ++ take l.i (children_of l.expr)

-- what is left to walk, and behind it what was found
abbrev pub invariant-loop-expr : goal.invariant-loop-expr
invariant-loop-expr l = post_order_all (trees_of (map (λ e. e.now) l.left.items)) ++ reverse (map (λ e. e.now) l.nodes.items) ≡ post_order l.self

abbrev pub decreases-loop-expr : goal.decreases-loop-expr
decreases-loop-expr l = length (post_order_all (trees_of (map (λ e. e.now) l.left.items)))

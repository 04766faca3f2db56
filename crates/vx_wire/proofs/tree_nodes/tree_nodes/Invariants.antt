use Rattle.std.proofs.Common.{◌≡◌, ◌++◌, map, reverse, take, length}
use Rattle.vx_wire_bytes.specs.WireViews.{wires_in, tree_view}
use Rattle.vx_wire.specs.WireOrders.{wire_nodes, all_wire_nodes}
use Rattle.vx_wire.proofs.tree_nodes.tree_nodes.Given as goal

-- the first children are put behind what is left
abbrev pub invariant-loop-child : goal.invariant-loop-child
invariant-loop-child l = map (λ t. tree_view t.now) l.left.items ≡ map (λ t. tree_view t.now) l.initial.left.items ++ map tree_view (take l.child-index l.child-items)

-- what is left to walk, and behind it what was found
abbrev pub invariant-loop-node : goal.invariant-loop-node
invariant-loop-node l =
    all_wire_nodes (wires_in (map (λ t. tree_view t.now) l.left.items)) ++ reverse (map (λ t. tree_view t.now) l.nodes.items) ≡ wire_nodes (tree_view l.tree)

abbrev pub decreases-loop-node : goal.decreases-loop-node
decreases-loop-node l = length (all_wire_nodes (wires_in (map (λ t. tree_view t.now) l.left.items)))

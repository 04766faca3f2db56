use Rattle.std.proofs.Common.{map}
use Rattle.vx_wire_bytes.specs.LeftToWrite.{IsLeft, nodes_left, steps_left}
use Rattle.vx_wire_bytes.specs.WireViews.{tree_view, trees_view}
use Rattle.vx_wire_bytes.proofs.writing.write_tree.Given as goal

-- the bytes are those of the tree but for the nodes that are left
abbrev pub invariant-loop-nodes : goal.invariant-loop-nodes
invariant-loop-nodes l = IsLeft l.out.items (tree_view l.tree) (nodes_left (map (λ s. trees_view s.now) l.left.items))

abbrev pub decreases-loop-nodes : goal.decreases-loop-nodes
decreases-loop-nodes l = steps_left (map (λ s. trees_view s.now) l.left.items)

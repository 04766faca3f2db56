use Rattle.std.proofs.Common.{◌≡◌, ◌≤◌, ◌+◌, ◌*◌, length, drop}
use Rattle.vx_wire_bytes.specs.Wires.{size_of, sizes_of}
use Rattle.vx_wire_bytes.specs.WireEqual.{wire_eq, wires_eq}
use Rattle.vx_wire_bytes.specs.WireViews.{tree_view, trees_view}
use Rattle.vx_wire_bytes.proofs.trees.+same.Given as goal

-- twice the nodes of a tree, and one more than that for a list
abbrev pub decreases-same : goal.decreases-same
decreases-same l = 2 * size_of (tree_view l.left.now)

abbrev pub decreases-same_children : goal.decreases-same_children
decreases-same_children l = 2 * sizes_of (trees_view l.left.now) + 1

-- the loop goes down the left tree, and what is left to compare tells whether the two are the same
abbrev pub invariant-same-loop-first : goal.invariant-same-loop-first
invariant-same-loop-first l =
    (size_of (tree_view l.first) ≤ size_of (tree_view l.left))
    × (wire_eq (tree_view l.left) (tree_view l.right) ≡ wire_eq (tree_view l.first) (tree_view l.second))

abbrev pub decreases-same-loop-first : goal.decreases-same-loop-first
decreases-same-loop-first l = size_of (tree_view l.first)

-- what is left to compare
abbrev pub invariant-same_children-loop-i : goal.invariant-same_children-loop-i
invariant-same_children-loop-i l =
    (length l.left ≡ length l.right)
    × (wires_eq (trees_view l.left) (trees_view l.right) ≡ wires_eq (trees_view (drop l.i l.left)) (trees_view (drop l.i l.right)))

-- How wire trees are seen: each as its node.
use Rattle.std.specs.Prelude.{List, [], ◌∷◌, map}
use Rattle.vx_wire_bytes.specs.Wires.{Wire, node, Wires, no_wires, first}
use Rattle.vx_wire_bytes.specs.declared.trees.WireTree.{WireTree, fold-WireTree}
use Rattle.vx_wire_bytes.specs.declared.trees.WireTree.TheOpen.{WireTree-F}

-- nodes, as a list of their own
abbrev pub wires_in : List Wire → Wires
wires_in [] = no_wires
wires_in (n ∷ ns) = first n (wires_in ns)

-- the node of one layer, where each child has given its own
abbrev pub tree_step : WireTree-F Wire → Wire
tree_step t = node t.id t.metadata.items (wires_in t.children.items)

-- the node that a wire tree stands for
abbrev pub tree_view : WireTree → Wire
tree_view = fold-WireTree Wire tree_step

-- the nodes that wire trees stand for, in order
abbrev pub trees_view : List WireTree → Wires
trees_view ts = wires_in (map tree_view ts)

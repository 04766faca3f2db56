-- The nodes of a wire tree from the leaves up.
use Rattle.std.specs.Prelude.{List, [], ◌∷◌, ◌++◌}
use Rattle.vx_wire_bytes.specs.Wires.{Wire, node, Wires, no_wires, first}

unfoldable mutual
  -- the nodes of a wire tree, each after those below it, children in order
  pub wire_nodes : Wire → List Wire
  wire_nodes (node id metadata children) = all_wire_nodes children ++ node id metadata children ∷ []

  -- the nodes of the wire trees of a list
  pub all_wire_nodes : Wires → List Wire
  all_wire_nodes no_wires = []
  all_wire_nodes (first n ns) = wire_nodes n ++ all_wire_nodes ns

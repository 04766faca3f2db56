-- When wire trees are equal: tests by their structure.
use Rattle.std.specs.Prelude.{Bool, true, false, ◌&&◌}
use Rattle.std.specs.Str.{bytes_eq}
use Rattle.vx_wire_bytes.specs.Wires.{Wire, node, Wires, no_wires, first}

unfoldable mutual
  -- whether two wire trees are the same
  pub wire_eq : Wire → Wire → Bool
  wire_eq (node id metadata children) (node other_id other_metadata others) =
      bytes_eq id other_id && (bytes_eq metadata other_metadata && wires_eq children others)

  -- whether two lists of them are the same
  pub wires_eq : Wires → Wires → Bool
  wires_eq no_wires no_wires = true
  wires_eq (first n ns) (first m ms) = wire_eq n m && wires_eq ns ms
  wires_eq _ _ = false

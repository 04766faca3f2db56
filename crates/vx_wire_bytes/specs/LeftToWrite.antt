-- For the checker: no public clause cites this.
-- What is left to write of a tree: lists of nodes, the last list first. A loop keeps them, so that a deep tree needs no call for each level.
use Rattle.std.specs.Prelude.{◌≡◌, ℕ, ◌+◌, ◌*◌, List, [], ◌∷◌, ◌++◌}
use Rattle.vx_dtype.specs.Types.{Bytes}
use Rattle.vx_wire_bytes.specs.Wires.{Wire, node, Wires, no_wires, first, sizes_of, wire_bytes, wires_bytes, IsSpellable, AreSpellable, HasShortParts, HaveShortParts}

-- the children of a node
abbrev pub children_in : Wire → Wires
children_in (node id metadata children) = children

-- one list behind another
abbrev pub joined : Wires → Wires → Wires
joined no_wires ms = ms
joined (first n ns) ms = first n (joined ns ms)

-- the nodes of lists, those of the last list first
abbrev pub nodes_left : List Wires → Wires
nodes_left [] = no_wires
nodes_left (ns ∷ lists) = joined (nodes_left lists) ns

-- how many steps the lists take: one for each, and two for each node in them
abbrev pub steps_left : List Wires → ℕ
steps_left [] = 0
steps_left (ns ∷ lists) = 1 + 2 * sizes_of ns + steps_left lists

-- the bytes are those of the tree but for what is left; it is what is left that may have no spelling
pub record IsLeft (bytes : Bytes) (tree : Wire) (left : Wires) : Type 0 where
  pub written : bytes ++ wires_bytes left ≡ wire_bytes tree
  pub spellable : AreSpellable left → IsSpellable tree
  pub short : HasShortParts tree → HaveShortParts left

-- For the checker: no public clause cites this.
-- How the reader's stack is seen: as the open nodes, the innermost first.
use Rattle.std.specs.Prelude.{List, map, reverse, Option, Some, None}
use Rattle.vx_wire_bytes.specs.Wires.{Head}
use Rattle.vx_wire_bytes.specs.Openings.{Open}
use Rattle.vx_wire_bytes.specs.Reading.{Closed, still_open, all_whole}
use Rattle.vx_wire_bytes.specs.WireViews.{tree_view, trees_view}
use Rattle.vx_wire_bytes.specs.declared.trees.WireTree.{WireTree}
use Rattle.vx_wire_bytes.specs.declared.reading.OpenNode.{OpenNode}

-- the head of an open node of the code
abbrev pub head_view : OpenNode → Head
head_view o = record { id = o.id; metadata = o.metadata.items; children = o.children }

abbrev pub open_view : OpenNode → Open
open_view o = record { head = head_view o; whole = trees_view o.whole.items }

-- the code's stack has the innermost last
abbrev pub stack_of : List OpenNode → List Open
stack_of os = reverse (map open_view os)

-- what is left when a node has become whole: a tree, or else the stack
abbrev pub closed_view : Option WireTree → List OpenNode → Closed
closed_view (Some t) os = all_whole (tree_view t)
closed_view None os = still_open (stack_of os)

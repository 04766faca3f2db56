use Rattle.vx_wire_bytes.specs.OpenViews.{stack_of}
use Rattle.vx_wire_bytes.proofs.ReadLemmas.{Reached}
use Rattle.vx_wire_bytes.proofs.reading.read_tree.Given as goal

abbrev pub invariant-loop-begun : goal.invariant-loop-begun
invariant-loop-begun l = Reached l.bytes l.begun (stack_of l.nodes.items) l.rest

use Rattle.std.proofs.Common.{◌≡◌}
use Rattle.vx_wire_bytes.specs.Reading.{closed}
use Rattle.vx_wire_bytes.specs.WireViews.{tree_view}
use Rattle.vx_wire_bytes.specs.OpenViews.{stack_of}
use Rattle.vx_wire_bytes.proofs.reading.close.Given as goal

-- closing what is left closes all
abbrev pub invariant-loop-inner : goal.invariant-loop-inner
invariant-loop-inner l = closed (stack_of l.nodes.items) (tree_view l.node) ≡ closed (stack_of l.fn.nodes.items) (tree_view l.fn.node)

abbrev pub decreases-loop-inner : goal.decreases-loop-inner
decreases-loop-inner l = l.nodes.len

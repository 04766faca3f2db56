use Rattle.std.proofs.Common.{length}
use denote.Param.Always.{always_mut}
use Rattle.std.specs.Fn.{CalledAt}
use Rattle.vx_traversal.specs.declared.order.TraversalOrder.TheVariants.{Continue}
use Rattle.vx_traversal.specs.Visits.{InTurn}
use Rattle.vx_traversal.proofs.containers.NodeContainer.apply_elements.Given as goal

-- what the elements that are left give is what all the elements give
abbrev pub invariant-loop-element : goal.invariant-loop-element
invariant-loop-element g l =
    always_mut g.F.FnMut l.f
    × ((r t : _) → InTurn (CalledAt g.F.FnMut) l.last l.f (g.Self.NodeContainer.left l.self l.cursor) r t → InTurn (CalledAt g.F.FnMut) Continue l.fn.f (g.Self.Holds.elements l.self) r t)

abbrev pub decreases-loop-element : goal.decreases-loop-element
decreases-loop-element g l = length (g.Self.NodeContainer.left l.self l.cursor)

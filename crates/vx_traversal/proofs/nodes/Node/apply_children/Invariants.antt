use Rattle.std.proofs.Common.{drop}
use denote.Param.Always.{always_mut}
use Rattle.std.specs.Fn.{CalledAt}
use Rattle.vx_traversal.specs.Visits.{InTurn}
use Rattle.vx_traversal.specs.declared.order.TraversalOrder.TheVariants.{Continue}
use Rattle.vx_traversal.proofs.nodes.Node.apply_children.Given as goal

-- what the children from i on give is what all the children give
abbrev pub invariant-loop-i : goal.invariant-loop-i
invariant-loop-i g l =
    always_mut g.F.FnMut l.f
    × ((r t : _) → InTurn (CalledAt g.F.FnMut) l.last l.f (drop l.i (g.Self.Node.children l.self)) r t → InTurn (CalledAt g.F.FnMut) Continue l.fn.f (g.Self.Node.children l.self) r t)

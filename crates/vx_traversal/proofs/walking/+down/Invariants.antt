use Rattle.std.proofs.Common.{◌≡◌, ◌+◌, ◌*◌, ◌≤◌, drop}
use Rattle.vx_traversal.specs.declared.order.TraversalOrder.TheVariants.{Continue, Stop}
use Rattle.vx_traversal.specs.Visits.{Visits, InTurn}
use Rattle.vx_traversal.proofs.walking.+down.Given as goal

abbrev pub decreases-walk_down_first : goal.decreases-walk_down_first
decreases-walk_down_first g l = 2 * g.H.Target.Node.height (g.H.NodeRef.target l.node)

abbrev pub decreases-walk_down : goal.decreases-walk_down
decreases-walk_down g l = 2 * g.H.Target.Node.height (g.H.NodeRef.target l.node) + 1

-- what the visit of the lower node gives is what the visit of the node gives
abbrev pub invariant-walk_down-loop-count : goal.invariant-walk_down-loop-count
invariant-walk_down-loop-count g l = record {
  again : g.W.Walker.ready l.walker;
  lower : g.H.Target.Node.height (g.H.NodeRef.target l.low) ≤ g.H.Target.Node.height (g.H.NodeRef.target l.fn.node);
  left : (r t : _) → Visits g.H.Target.Node.children g.W.Walker.goes_down g.W.Walker.goes_up g.H.Target.Node.height l.walker (g.H.NodeRef.target l.low) r t
      → Visits g.H.Target.Node.children g.W.Walker.goes_down g.W.Walker.goes_up g.H.Target.Node.height l.fn.walker (g.H.NodeRef.target l.fn.node) r t;
}

abbrev pub decreases-walk_down-loop-count : goal.decreases-walk_down-loop-count
decreases-walk_down-loop-count g l = g.H.Target.Node.height (g.H.NodeRef.target l.low)

-- what the children from i on give is what all the children give
abbrev pub invariant-walk_down_first-loop-i : goal.invariant-walk_down_first-loop-i
invariant-walk_down_first-loop-i g l = record {
  again : g.W.Walker.ready l.walker;
  on : l.last ≡ Stop → ⊥;
  left : (r t : _) → InTurn (Visits g.H.Target.Node.children g.W.Walker.goes_down g.W.Walker.goes_up g.H.Target.Node.height) l.last l.walker (drop l.i (g.H.Target.Node.children (g.H.NodeRef.target l.node))) r t
      → InTurn (Visits g.H.Target.Node.children g.W.Walker.goes_down g.W.Walker.goes_up g.H.Target.Node.height) Continue l.fn.walker (g.H.Target.Node.children (g.H.NodeRef.target l.node)) r t;
}

use Rattle.std.proofs.Common.{◌≡◌, ◌+◌, ◌*◌, ◌≤◌, drop}
use Rattle.vx_traversal.specs.declared.order.TraversalOrder.TheVariants.{Stop}
use Rattle.vx_traversal.specs.Visits.{Visits, InTurn}
use Rattle.vx_traversal.specs.Paths.{IsBelow, UpPath}
use Rattle.vx_traversal.proofs.walking.+walk.Given as goal

-- the height of the node, then what is done at it, then how many links of its path are left: these are below 2 ^ 64
abbrev pub decreases-walk_node : goal.decreases-walk_node
decreases-walk_node g l = 18446744073709551620 * g.H.Target.Node.height (g.H.NodeRef.target l.node) + 18446744073709551619

abbrev pub decreases-walk_up : goal.decreases-walk_up
decreases-walk_up g l = 18446744073709551620 * g.H.Target.Node.height (g.H.NodeRef.target l.top) + 2 + l.links

abbrev pub decreases-walk_first : goal.decreases-walk_first
decreases-walk_first g l = 18446744073709551620 * g.H.Target.Node.height (g.H.NodeRef.target l.node) + 1

abbrev pub decreases-walk_last : goal.decreases-walk_last
decreases-walk_last g l = 18446744073709551620 * g.H.Target.Node.height (g.H.NodeRef.target l.node) + 1

abbrev pub decreases-walk_between : goal.decreases-walk_between
decreases-walk_between g l = 18446744073709551620 * g.H.Target.Node.height (g.H.NodeRef.target l.node)

-- the lower node stands on the path; once it has its answer, what is left of the nodes above it gives what the visit of the first node gives
abbrev pub invariant-walk_node-loop-links : goal.invariant-walk_node-loop-links
invariant-walk_node-loop-links g l = record {
  again : g.W.Walker.ready l.walker;
  lower : g.H.Target.Node.height (g.H.NodeRef.target l.low) + l.links ≤ g.H.Target.Node.height (g.H.NodeRef.target l.fn.node);
  path : IsBelow g.H.Target.Node.children l.links (g.H.NodeRef.target l.fn.node) (g.H.NodeRef.target l.low);
  left : (q u r t : _) → Visits g.H.Target.Node.children g.W.Walker.goes_down g.W.Walker.goes_up g.H.Target.Node.height l.walker (g.H.NodeRef.target l.low) q u
      → UpPath g.H.Target.Node.children g.W.Walker.goes_down g.W.Walker.goes_up g.H.Target.Node.height l.links (g.H.NodeRef.target l.fn.node) q u r t
      → Visits g.H.Target.Node.children g.W.Walker.goes_down g.W.Walker.goes_up g.H.Target.Node.height l.fn.walker (g.H.NodeRef.target l.fn.node) r t;
}

abbrev pub decreases-walk_node-loop-links : goal.decreases-walk_node-loop-links
decreases-walk_node-loop-links g l = g.H.Target.Node.height (g.H.NodeRef.target l.low)

-- what the children from i on give is what the children from the first place on give
abbrev pub invariant-walk_between-loop-i : goal.invariant-walk_between-loop-i
invariant-walk_between-loop-i g l = record {
  again : g.W.Walker.ready l.walker;
  on : l.order ≡ Stop → ⊥;
  left : (r t : _) → InTurn (Visits g.H.Target.Node.children g.W.Walker.goes_down g.W.Walker.goes_up g.H.Target.Node.height) l.order l.walker (drop l.i (g.H.Target.Node.children (g.H.NodeRef.target l.node))) r t
      → InTurn (Visits g.H.Target.Node.children g.W.Walker.goes_down g.W.Walker.goes_up g.H.Target.Node.height) l.fn.last l.fn.walker (drop l.fn.from (g.H.Target.Node.children (g.H.NodeRef.target l.node))) r t;
}

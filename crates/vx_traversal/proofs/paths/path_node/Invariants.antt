use Rattle.vx_traversal.specs.Paths.{IsBelow}
use Rattle.vx_traversal.proofs.paths.path_node.Given as goal

-- the node so far stands so many links below
abbrev pub invariant-loop : goal.invariant-loop
invariant-loop g l = IsBelow g.H.Target.Node.children l.counter (g.H.NodeRef.target l.fn.top) (g.H.NodeRef.target l.node)

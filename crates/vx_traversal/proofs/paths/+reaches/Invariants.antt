use Rattle.std.proofs.Common.{◌≡◌, ◌-◌, drop}
use Rattle.std.specs.List.{list_any}
use Rattle.vx_traversal.specs.Paths.{reaches}
use Rattle.vx_traversal.proofs.paths.+reaches.Given as goal

abbrev pub decreases-reaches : goal.decreases-reaches
decreases-reaches g l = l.levels

-- no child before i reaches so far
abbrev pub invariant-loop-i : goal.invariant-loop-i
invariant-loop-i g l =
    list_any (reaches g.H.Target.Node.children (l.levels - 1)) (drop l.i (g.H.Target.Node.children (g.H.NodeRef.target l.node)))
    ≡ list_any (reaches g.H.Target.Node.children (l.levels - 1)) (g.H.Target.Node.children (g.H.NodeRef.target l.node))

use Rattle.std.proofs.Common.{◌≡◌, ◌<◌, length, drop}
use Rattle.vx_traversal.specs.Paths.{deepest_place, path_place}
use Rattle.vx_traversal.proofs.paths.path_place.Given as goal

-- the deepest of those so far and the children from i on decide
abbrev pub invariant-loop-i : goal.invariant-loop-i
invariant-loop-i g l = record {
  within : l.place < length (g.H.Target.Node.children (g.H.NodeRef.target l.node));
  left : deepest_place g.H.Target.Node.children (g.H.NodeRef.target l.deepest) l.place l.i (drop l.i (g.H.Target.Node.children (g.H.NodeRef.target l.node)))
      ≡ path_place g.H.Target.Node.children (g.H.NodeRef.target l.node);
}

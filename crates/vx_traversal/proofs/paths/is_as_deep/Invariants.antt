use Rattle.std.proofs.Common.{◌≡◌, drop}
use Rattle.vx_traversal.specs.Paths.{compared_levels, is_as_deep}
use Rattle.vx_traversal.proofs.paths.is_as_deep.Given as goal

-- the numbers of levels that are left decide
abbrev pub invariant-loop-levels : goal.invariant-loop-levels
invariant-loop-levels g l =
    is_as_deep g.H.Target.Node.children (drop l.levels-index compared_levels) (g.H.NodeRef.target l.first) (g.H.NodeRef.target l.second)
    ≡ is_as_deep g.H.Target.Node.children compared_levels (g.H.NodeRef.target l.first) (g.H.NodeRef.target l.second)

use Rattle.std.proofs.Common.{◌≡◌, ◌++◌, map, drop}
use Rattle.vx_traversal.proofs.nodes.Node.iter_children.Given as goal

-- what was collected and what is left are the children
abbrev pub invariant-loop-i : goal.invariant-loop-i
invariant-loop-i g l = map (λ child. child.now) l.list.items ++ drop l.i (g.Self.Node.children l.self) ≡ g.Self.Node.children l.self

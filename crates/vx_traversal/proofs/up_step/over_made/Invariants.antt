use Rattle.std.proofs.Common.{◌≡◌, take}
use Rattle.vx_traversal.specs.UpFolds.{in_places}
use Rattle.vx_traversal.proofs.up_step.over_made.Given as goal

-- what stands in the places of the children so far
abbrev pub invariant-loop-i : goal.invariant-loop-i
invariant-loop-i g l = l.children.items ≡ take l.i (in_places (g.N.Node.children l.node) l.made)

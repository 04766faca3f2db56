use Rattle.std.proofs.Common.{◌≡◌, take}
use Rattle.vx_expr.specs.Trees.{children_of}
use Rattle.vx_transform.specs.Rebuilds.{all_or_same}
use Rattle.vx_transform.proofs.children.with_made.Given as goal

-- what was made of the children so far; of each that stays itself
abbrev pub invariant-loop-i : goal.invariant-loop-i
invariant-loop-i l = l.children.items ≡ take l.i (all_or_same (children_of l.expr) l.below)

use Rattle.std.proofs.Common.{◌≤◌}
use Rattle.vx_expr.specs.Heights.{height}
use Rattle.vx_expr.proofs.+dropping.Given as goal

-- what is left to drop is no higher than what was given
abbrev pub invariant-expressions::ExprRef::drop-loop-node : goal.invariant-expressions::ExprRef::drop-loop-node
invariant-expressions::ExprRef::drop-loop-node l = height l.self ≤ height l.fn.self

use Rattle.std.proofs.Common.{◌≡◌}
use Rattle.vx_expr.specs.declared.Operator.{Operator}
use Rattle.vx_build.specs.Collectors.{joined_after}
use Rattle.vx_build.proofs.collectors.and_collect_right.Given as goal

abbrev pub invariant-loop-next : goal.invariant-loop-next
invariant-loop-next l = l.joined ≡ joined_after Operator.And l.initial.joined l.yielded

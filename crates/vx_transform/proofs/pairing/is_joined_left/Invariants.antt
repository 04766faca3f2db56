use Rattle.std.proofs.Common.{◌≡◌, Some}
use Rattle.vx_expr.specs.declared.Operator.{Operator}
use Rattle.vx_expr.specs.Conjuncts.{conjuncts_of}
use Rattle.vx_build.specs.Collectors.{joined_left}
use Rattle.vx_transform.proofs.pairing.is_joined_left.Given as goal

-- the whole is joined to the left where what is left of it is
abbrev pub invariant-loop-others : goal.invariant-loop-others
invariant-loop-others l =
    joined_left Operator.And (conjuncts_of l.first) ≡ Some l.first → joined_left Operator.And (conjuncts_of l.expr) ≡ Some l.expr

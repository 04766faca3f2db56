use Rattle.std.proofs.Common.{◌∙◌, ap, refl, sym}
use Rattle.vx_expr.specs.declared.Operator.{Operator}
use Rattle.vx_build.specs.Collectors.{joined_left}
use Rattle.vx_transform.proofs.PairLemmas.{joined_and, none_where_not}
use Rattle.vx_transform.proofs.pairing.is_joined_left.Goals as goal

pub loop-others-init : goal.loop-others-init
loop-others-init c = λ h. h

pub loop-others-preserved : goal.loop-others-preserved
loop-others-preserved c =
    λ h. c.loop-others.invariant (joined_and c.loop-others.first.now c.in-Some.others.now c.in-Some.last.now c.in-Some.ensures.operands (c.operands_of_and-in-Some.ensures.alone (none_where_not c.operands_of_and-in-Some.result (sym c.is_some.ensures ∙ c.if-is_some.false))) h)

pub returns : goal.returns
returns c = λ _. c.loop-others.invariant (ap (joined_left Operator.And) (c.in_default.ensures.alone refl))

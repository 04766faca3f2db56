use Rattle.std.proofs.Common.{◌≡◌, refl, rules, Err}
use denote.Param.Always.{mut_next}
use Rattle.std.specs.Fn.{CalledAt}
use Rattle.vx_traversal.proofs.Steps.{InTurn-error, InTurn-stop, InTurn-next, ok-is}
use Rattle.vx_traversal.proofs.containers.NodeRefContainer.apply_ref_elements.Goals as goal

pub returns-in_err-order : goal.returns-in_err-order
returns-in_err-order g c =
    let is : c.from_residual.result ≡ Err c.in_err-order.field-0.0 = search rules in
    (c.f.new.self, c.loop-element.invariant.1 _ _ (InTurn-error (CalledAt g.F.FnMut) _ c.in-Some.element.now _ c.in-Some.ensures c.loop-element.last c.loop-element.f c.f.result c.f.new.self (record { shown = c.in-Some.element; shows = refl; called = c.f.ensures }) c.in_err-order.field-0.0 c.from_residual.result c.in_err-order.was is))

pub returns-in-Stop : goal.returns-in-Stop
returns-in-Stop g c =
    (c.f.new.self, c.loop-element.invariant.1 _ _ (InTurn-stop (CalledAt g.F.FnMut) _ c.in-Some.element.now _ c.in-Some.ensures c.loop-element.last c.loop-element.f c.f.result c.f.new.self (record { shown = c.in-Some.element; shows = refl; called = c.f.ensures }) (ok-is _ _ _ c.in_ok-order.was c.in-Stop.is)))

pub loop-element-preserved : goal.loop-element-preserved
loop-element-preserved g c = (
  mut_next g.F.FnMut c.loop-element.f _ c.f.result c.f.new.self c.f.new.self c.f.ensures refl c.loop-element.invariant.0,
  λ r t rest. c.loop-element.invariant.1 r t (InTurn-next (CalledAt g.F.FnMut) _ c.in-Some.element.now _ c.in-Some.ensures c.loop-element.last c.loop-element.f c.f.result c.f.new.self (record { shown = c.in-Some.element; shows = refl; called = c.f.ensures }) c.in_ok-order.order c.in_ok-order.was c.in_default-2.not-Stop r t rest),
)

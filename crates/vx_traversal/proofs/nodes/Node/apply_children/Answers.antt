use Rattle.std.proofs.Common.{refl, rules}
use denote.Param.Always.{mut_next}
use Rattle.std.specs.Fn.{CalledAt}
use Rattle.vx_traversal.proofs.Steps.{drop-next, InTurn-error, InTurn-stop, InTurn-next}
use Rattle.vx_traversal.proofs.nodes.Node.apply_children.Goals as goal

pub returns-in_err-order : goal.returns-in_err-order
returns-in_err-order g c =
    (c.f.new.self, c.loop-i.invariant.1 _ _ (InTurn-error (CalledAt g.F.FnMut) _ c.node_child.result.now _ (drop-next (g.Self.Node.children c.args.self.now) c.loop-i.i c.node_child.result.now c.node_child.ensures) c.loop-i.last c.loop-i.f c.f.result c.f.new.self (record { shown = c.node_child.result; shows = refl; called = c.f.ensures }) c.in_err-order.field-0.0 c.from_residual.result c.in_err-order.was (search rules)))

pub returns-in-Stop : goal.returns-in-Stop
returns-in-Stop g c =
    (c.f.new.self, c.loop-i.invariant.1 _ _ (InTurn-stop (CalledAt g.F.FnMut) _ c.node_child.result.now _ (drop-next (g.Self.Node.children c.args.self.now) c.loop-i.i c.node_child.result.now c.node_child.ensures) c.loop-i.last c.loop-i.f c.f.result c.f.new.self (record { shown = c.node_child.result; shows = refl; called = c.f.ensures }) (cc)))

pub loop-i-preserved : goal.loop-i-preserved
loop-i-preserved g c = (
  mut_next g.F.FnMut c.loop-i.f _ c.f.result c.f.new.self c.f.new.self c.f.ensures refl c.loop-i.invariant.0,
  λ r t rest. c.loop-i.invariant.1 r t (InTurn-next (CalledAt g.F.FnMut) _ c.node_child.result.now _ (drop-next (g.Self.Node.children c.args.self.now) c.loop-i.i c.node_child.result.now c.node_child.ensures) c.loop-i.last c.loop-i.f c.f.result c.f.new.self (record { shown = c.node_child.result; shows = refl; called = c.f.ensures }) c.in_ok-order.order c.in_ok-order.was c.in_default.not-Stop r t rest),
)

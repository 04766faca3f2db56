use Rattle.std.proofs.Common.{refl, ap, ◌∙◌, map}
use Rattle.vx_wire.specs.Metadata.{IsSerializable}
use Rattle.vx_wire.proofs.NodeLemmas.{all_reached, at_node, node_here, none_left, none_reached, reached_next}
use Rattle.vx_wire.proofs.serializing.is_serializable.Goals as goal

pub loop-node-init : goal.loop-node-init
loop-node-init c = none_reached IsSerializable c.args.expr.now _ (ap (map (λ e. e.now)) c.as_slice-node-items.ensures.value ∙ c.in_ok-nodes.ensures)

pub returns-then-not-is_node_serializable : goal.returns-then-not-is_node_serializable
returns-then-not-is_node_serializable c =
    let here = node_here (λ e. e.now) c.as_slice-node-items.result.now c.loop-node.node-index c.node-item.result c.loop-node-test.true c.node-item.is in
    (λ e. absurd cc, λ h. c.if-not-is_node_serializable.ensures.1 (at_node IsSerializable IsSerializable c.args.expr.now _ _ _ here c.loop-node.invariant h))

pub loop-node-preserved : goal.loop-node-preserved
loop-node-preserved c =
    let here = node_here (λ e. e.now) c.as_slice-node-items.result.now c.loop-node.node-index c.node-item.result c.loop-node-test.true c.node-item.is in
    reached_next IsSerializable c.args.expr.now _ _ _ here (c.if-not-is_node_serializable.ensures.0 refl) c.loop-node.invariant

pub returns : goal.returns
returns c =
    let none = none_left (λ e. e.now) c.as_slice-node-items.result.now c.loop-node.node-index c.loop-node-test.false in
    (λ e. all_reached IsSerializable c.args.expr.now _ none c.loop-node.invariant, λ h. refl)

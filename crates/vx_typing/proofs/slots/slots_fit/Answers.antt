use Rattle.std.proofs.Common.{◌+◌, ◌&&◌, ap, ◌∙◌, sym, map, drop}
use Rattle.std.specs.List.{list_all}
use Rattle.vx_typing.specs.OwnSlots.{own_slot_fits}
use Rattle.vx_typing.proofs.PostOrderValues.{node_here, none_left}
use Rattle.vx_typing.proofs.SlotLemmas.{slots_by_nodes}
use Rattle.vx_typing.proofs.slots.slots_fit.Goals as goal

pub loop-node-init : goal.loop-node-init
loop-node-init c =
    slots_by_nodes c.args.slots.now c.args.expr.now
    ∙ ap (list_all (own_slot_fits c.args.slots.now)) (sym (ap (map (λ e. e.now)) c.as_slice-node-items.ensures.value ∙ c.in_ok-nodes.ensures))

pub returns-then-not-own_slot_fits : goal.returns-then-not-own_slot_fits
returns-then-not-own_slot_fits c =
    let own = own_slot_fits c.args.slots.now in
    let all = c.as_slice-node-items.result.now in
    let i = c.loop-node.node-index in
    sym (c.loop-node.invariant ∙ ap (list_all own) (node_here (λ e. e.now) all i c.node-item.result c.loop-node-test.true c.node-item.is)
    ∙ ap (λ b. b && list_all own (map (λ e. e.now) (drop (i + 1) all))) (sym c.own_slot_fits.ensures ∙ c.if-not-own_slot_fits.true))

pub loop-node-preserved : goal.loop-node-preserved
loop-node-preserved c =
    let own = own_slot_fits c.args.slots.now in
    let all = c.as_slice-node-items.result.now in
    let i = c.loop-node.node-index in
    c.loop-node.invariant ∙ ap (list_all own) (node_here (λ e. e.now) all i c.node-item.result c.loop-node-test.true c.node-item.is)
    ∙ ap (λ b. b && list_all own (map (λ e. e.now) (drop (i + 1) all))) (sym c.own_slot_fits.ensures ∙ c.if-not-own_slot_fits.false)

pub returns : goal.returns
returns c =
    sym (c.loop-node.invariant ∙ ap (list_all (own_slot_fits c.args.slots.now)) (none_left (λ e. e.now) c.as_slice-node-items.result.now c.loop-node.node-index c.loop-node-test.false))

use Rattle.std.proofs.Common.{◌≡◌, map, drop}
use Rattle.std.specs.List.{list_all}
use Rattle.vx_semantics.specs.Slots.{slots_fit}
use Rattle.vx_typing.specs.OwnSlots.{own_slot_fits}
use Rattle.vx_typing.proofs.slots.slots_fit.Given as goal

-- what is left to test
abbrev pub invariant-loop-node : goal.invariant-loop-node
invariant-loop-node l = slots_fit l.slots l.expr ≡ list_all (own_slot_fits l.slots) (map (λ e. e.now) (drop l.node-index l.node-items))

use Rattle.std.proofs.Common.{◌≡◌, take}
use Rattle.vx_prepare.proofs.evaluating.evaluate_over.Given as goal

abbrev pub invariant-loop-slot : goal.invariant-loop-slot
invariant-loop-slot l = l.held.items ≡ take l.slot-index l.slots

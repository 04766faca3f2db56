use Rattle.std.proofs.Common.{◌≡◌, take}
use Rattle.vx_eval.specs.Versions.{held_at}
use Rattle.vx_eval.proofs.versions.held_at.Given as goal

-- what the slots so far hold
abbrev pub invariant-loop-number : goal.invariant-loop-number
invariant-loop-number l = l.held.items ≡ held_at l.slots (take l.number-index l.numbers)

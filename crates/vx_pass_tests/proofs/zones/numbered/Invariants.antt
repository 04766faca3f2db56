use Rattle.std.proofs.Common.{◌≡◌, length}
use Rattle.vx_pass_tests.proofs.zones.numbered.Given as goal

-- there is a name for each type before the place
abbrev pub invariant-loop-i : goal.invariant-loop-i
invariant-loop-i l = length l.names.items ≡ l.i-counter

use Rattle.std.proofs.Common.{◌≡◌}
use Rattle.std.specs.Prelude.{replicate}
use Rattle.vx_numbers.proofs.lane.repeated_value.Given as goal

abbrev pub invariant-places : goal.invariant-places
invariant-places g l = l.values.items ≡ replicate l.counter l.value

use Rattle.std.proofs.Common.{◌≡◌, take}
use Rattle.std.specs.List.{flat_map}
use Rattle.vx_partition.specs.Entries.{held_at}
use Rattle.vx_partition.proofs.annotating.held_by.Given as goal

-- what the entries at the numbers so far hold
abbrev pub invariant-loop-number : goal.invariant-loop-number
invariant-loop-number g l = l.held.items ≡ flat_map (λ n. held_at n l.found.entries.entries) (take l.number-index l.numbers)

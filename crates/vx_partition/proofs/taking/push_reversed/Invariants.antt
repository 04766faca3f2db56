use Rattle.std.proofs.Common.{◌≡◌, ◌≤◌, ◌++◌, drop, length, reverse}
use Rattle.vx_partition.proofs.taking.push_reversed.Given as goal

-- the numbers from the place on stand at the end, the last of them first
abbrev pub invariant-loop-left : goal.invariant-loop-left
invariant-loop-left l = (l.left ≤ length l.numbers) × (reverse l.list.items ≡ drop l.left l.numbers ++ reverse l.initial.list.items)

-- how many numbers are left
abbrev pub decreases-loop-left : goal.decreases-loop-left
decreases-loop-left l = l.left

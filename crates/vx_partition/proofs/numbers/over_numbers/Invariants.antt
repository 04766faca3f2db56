use Rattle.std.proofs.Common.{◌≡◌, map, take}
use Rattle.vx_partition.specs.Numbering.{number_tree}
use Rattle.vx_partition.proofs.numbers.over_numbers.Given as goal

-- the numbers so far, each as a constant
abbrev pub invariant-loop-number : goal.invariant-loop-number
invariant-loop-number l = l.children.items ≡ map number_tree (take l.number-index l.below)

use Rattle.std.proofs.Common.{◌≡◌, true}
use Rattle.vx_numbers.specs.Numbers.{all_in_range}
use Rattle.vx_arrays.specs.Arrays.{cells, number_at}
use Rattle.vx_arrays.proofs.numbers.numbers_of.Given as goal

-- the numbers so far
abbrev pub invariant-loop-i : goal.invariant-loop-i
invariant-loop-i l =
    (l.numbers.items ≡ cells l.fn.validity (number_at l.fn.p l.fn.values) l.i) × (all_in_range l.fn.p l.numbers.items ≡ true)

use Rattle.std.proofs.Common.{◌≡◌}
use Rattle.vx_arrays.specs.Bitmaps.{bit_at}
use Rattle.vx_arrays.specs.Arrays.{cells}
use Rattle.vx_arrays.proofs.truths.truths_of.Given as goal

-- the truths so far
abbrev pub invariant-loop-i : goal.invariant-loop-i
invariant-loop-i l = l.truths.items ≡ cells l.fn.validity (bit_at l.fn.values) l.i

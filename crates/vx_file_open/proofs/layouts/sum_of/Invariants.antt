use Rattle.std.proofs.Common.{◌≡◌, take, sum}
use Rattle.vx_file_open.proofs.layouts.sum_of.Given as goal

-- the sum so far
abbrev pub invariant-loop-i : goal.invariant-loop-i
invariant-loop-i l = l.total ≡ sum (take l.i l.fn.numbers)

use Rattle.std.proofs.Common.{◌≡◌, take}
use Rattle.vx_column.proofs.equality.same.Given as goal

-- the rows so far are the same
abbrev pub invariant-loop-i : goal.invariant-loop-i
invariant-loop-i l = take l.i l.fn.left.rows ≡ take l.i l.fn.right.rows

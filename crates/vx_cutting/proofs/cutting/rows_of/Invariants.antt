use Rattle.std.proofs.Common.{◌≡◌, ◌≤◌, ◌*◌, ◌-◌, ◌^◌, take}
use Rattle.std.specs.List.{sum}
use Rattle.vx_cutting.proofs.cutting.rows_of.Given as goal

-- the rows of the blocks so far
abbrev pub invariant-loop-i : goal.invariant-loop-i
invariant-loop-i l = (l.rows ≡ sum (take l.i l.lengths)) × (l.rows ≤ l.i * (2 ^ 32 - 1))

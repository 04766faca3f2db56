-- The truths of the rows so far.
use Rattle.std.proofs.Common.{◌≡◌, map, take}
use Rattle.vx_dtype.specs.Logic.{is_true_val}
use Rattle.vx_calls.proofs.row_truths.truths.Given as goal

abbrev pub invariant-loop-i : goal.invariant-loop-i
invariant-loop-i l = l.flags.items ≡ map is_true_val (take l.i l.fn.column.rows)

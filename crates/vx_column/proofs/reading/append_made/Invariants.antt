use Rattle.std.proofs.Common.{take, []}
use Rattle.vx_column.specs.Columns.{AppendsRows, column}
use Rattle.vx_column.proofs.reading.append_made.Given as goal

-- the rows so far
abbrev pub invariant-loop-i : goal.invariant-loop-i
invariant-loop-i l = AppendsRows (column l.fn.column.ty (take l.i l.fn.column.rows)) [] l.made.items

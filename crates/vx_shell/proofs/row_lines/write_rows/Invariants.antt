-- The lines of the rows so far are written but for those that are held, no fault was taken back, and the rows that are left are of the type.
use Rattle.std.proofs.Common.{◌≡◌, ◌≤◌, true, take, drop}
use Rattle.std.specs.String.{string_bytes}
use Rattle.vx_column.specs.Columns.{values_fit, seen_rows}
use Rattle.vx_dtype.specs.TypeViews.{type_view}
use Rattle.vx_laws_shell.specs.Lines.{row_lines}
use Rattle.vx_shell.specs.Pieces.{WritesFirst}
use Rattle.vx_shell.proofs.row_lines.write_rows.Given as goal

abbrev pub invariant-loop-row : goal.invariant-loop-row
invariant-loop-row g l = record {
  written : WritesFirst (g.O.Sink.written l.fn.output) (g.O.Sink.written l.output) (row_lines (seen_rows (type_view l.fn.dtype) (take l.row-index l.fn.rows))) (string_bytes l.lines);
  later : g.O.Sink.faults l.fn.output ≤ g.O.Sink.faults l.output;
  fit : values_fit (type_view l.fn.dtype) (drop l.row-index l.fn.rows) ≡ true;
}

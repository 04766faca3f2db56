-- So many of the columns so far are read.
use Rattle.std.proofs.Common.{◌≡◌, ◌≤◌, length, map, take}
use Rattle.vx_laws_explaining.specs.Explained.{read_names}
use Rattle.vx_explaining.specs.ExplainedViews.{column_view}
use Rattle.vx_explaining.proofs.columns.number_read.Given as goal

abbrev pub invariant-loop-column : goal.invariant-loop-column
invariant-loop-column l = record {
  number : l.number ≡ length (read_names (map column_view (take l.column-index l.fn.columns)));
  few : l.number ≤ l.column-index;
}

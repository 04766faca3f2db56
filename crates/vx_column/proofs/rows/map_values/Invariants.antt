use Rattle.std.proofs.Common.{◌≡◌, true, take, map}
use Rattle.vx_column.specs.Columns.{values_fit, seen_rows}
use Rattle.vx_column.proofs.rows.map_values.Given as goal

abbrev pub invariant-loop-i : goal.invariant-loop-i
invariant-loop-i g l =
    (values_fit (g.R.RowRule.made l.fn.rule) l.made.items ≡ true)
    × (seen_rows (g.R.RowRule.made l.fn.rule) l.made.items ≡ map (g.R.RowRule.rule l.fn.rule) (seen_rows (g.R.RowRule.taken l.fn.rule) (take l.i l.fn.values)))

use Rattle.std.proofs.Common.{◌≡◌, map}
use Rattle.std.specs.List.{range_with_len}
use Rattle.vx_laws_generated.specs.GeneratedTable.{bound_in}
use Rattle.vx_generated.specs.GeneratedViews.{column_view}
use Rattle.vx_generated.proofs.statistics.bounds_in.Given as goal

-- the bounds of the blocks so far
abbrev pub invariant-loop-block : goal.invariant-loop-block
invariant-loop-block l = l.values.items ≡ map (bound_in (column_view l.column) l.stat l.rows) (range_with_len 0 l.block)

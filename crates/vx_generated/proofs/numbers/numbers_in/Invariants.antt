use Rattle.std.proofs.Common.{◌≡◌, map}
use Rattle.std.specs.List.{range_with_len}
use Rattle.vx_laws_generated.specs.GeneratedTable.{number_at}
use Rattle.vx_generated.specs.GeneratedViews.{column_view}
use Rattle.vx_generated.proofs.numbers.numbers_in.Given as goal

-- the numbers of the rows so far
abbrev pub invariant-loop-i : goal.invariant-loop-i
invariant-loop-i l = l.numbers.items ≡ map (number_at (column_view l.column)) (range_with_len l.start l.i)

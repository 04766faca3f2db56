use Rattle.std.proofs.Common.{◌≡◌, map, take}
use Rattle.vx_column.specs.Columns.{column}
use Rattle.vx_cutting.specs.Cutting.{rows_cut}
use Rattle.vx_cutting.proofs.cutting.block_of.Given as goal

-- the columns so far
abbrev pub invariant-loop-column : goal.invariant-loop-column
invariant-loop-column l = l.cut.items ≡ map (λ c. column c.ty (rows_cut l.fn.most c.rows l.fn.block)) (take l.column-index l.fn.columns)

use Rattle.std.proofs.Common.{arith, ◌≡◌}
use Rattle.vx_kernels.proofs.OrderLemmas.{plain_other, same_other}
use Rattle.vx_column.proofs.RowLemmas.{length_zip_rows}
use Rattle.vx_kernels.proofs.ZippedRows.{zip_rows3_zip_rows}
use Rattle.vx_column.specs.Columns.{zip_rows, zip_rows3}
use Rattle.vx_dtype.specs.Order.{between3, compare3, bound_operator}
use Rattle.vx_dtype.specs.Logic.{and3}
use Rattle.vx_kernels.proofs.comparisons.between.Goals as goal

pub compare-requires-clause-plain : goal.compare-requires-clause-plain
compare-requires-clause-plain c = plain_other _ _ c.requires.plain c.requires.lower

pub compare-requires-clause-same : goal.compare-requires-clause-same
compare-requires-clause-same c = same_other _ _ c.requires.plain c.requires.lower

pub and_kleene-requires-clause-lengths : goal.and_kleene-requires-clause-lengths
and_kleene-requires-clause-lengths c =
    let above = c.in_ok-above.ensures.rows in
    let below = c.in_ok-below.ensures.rows in
    rw (above, below) (omega (arith, length_zip_rows, c.requires.lower_length, c.requires.upper_length))

pub returns-clause-rows : goal.returns-clause-rows
returns-clause-rows c =
    let above = c.in_ok-above.ensures.rows in
    let below = c.in_ok-below.ensures.rows in
    let both = zip_rows3_zip_rows and3 (compare3 (bound_operator c.args.options.lower_strict)) (compare3 (bound_operator c.args.options.upper_strict)) c.args.c.now.rows c.args.lower.now.rows c.args.upper.now.rows c.requires.lower_length c.requires.upper_length in
    let rows : zip_rows and3 c.in_ok-above.above.rows c.in_ok-below.below.rows ≡ zip_rows3 (between3 c.args.options) c.args.c.now.rows c.args.lower.now.rows c.args.upper.now.rows = rw (above, below, c.to_operator.ensures, c.to_operator-2.ensures) both in
    rw (← rows) c.and_kleene.ensures.rows

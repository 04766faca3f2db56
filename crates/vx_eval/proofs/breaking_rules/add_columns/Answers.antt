use Rattle.std.proofs.Common.{◌&&◌}
use Rattle.vx_column.specs.Answers.{no_faults}
use Rattle.vx_dtype.specs.Sums.{add3}
use Rattle.vx_dtype.specs.TypeViews.{type_view}
use Rattle.vx_semantics.specs.Typing.{sum_type}
use Rattle.vx_eval.proofs.BreakingLemmas.{total_made, total_broken}
use Rattle.vx_eval.proofs.breaking_rules.add_columns.Goals as goal

pub returns-in-Ok : goal.returns-in-Ok
returns-in-Ok c =
    total_made c.args.left.now c.args.right.now add3 (type_view c.dtype.result.now) (type_view c.dtype-2.result.now) c.equal_integers.result
    (no_faults c.args.left.now.rows && no_faults c.args.right.now.rows) c.in-Ok.column
    c.dtype.ensures.shown c.dtype-2.ensures.shown c.equal_integers.ensures c.if-not-equal_integers.false c.in-Ok.ensures

pub returns-in-Err-Overflow : goal.returns-in-Err-Overflow
returns-in-Err-Overflow c =
    let told = rw c.in-Err-Overflow.field-0-is at c.in-Err-Overflow.ensures in
    total_broken c.args.left.now c.args.right.now add3 (sum_type c.args.left.now.ty c.args.right.now.ty) c.dtype.ensures.fit c.dtype-2.ensures.fit told

use Rattle.std.proofs.Common.{refl, map}
use Rattle.vx_dtype.specs.Casts.{cast3}
use Rattle.vx_dtype.specs.TypeViews.{type_view}
use Rattle.vx_column.specs.Columns.{column}
use Rattle.vx_column.specs.declared.errors.ColumnError.TheVariants.{BadCast}
use Rattle.vx_eval.proofs.BreakingLemmas.{row_broken}
use Rattle.vx_eval.proofs.breaking_rules.cast_column.Goals as goal

pub returns-in-Err-BadCast : goal.returns-in-Err-BadCast
returns-in-Err-BadCast c =
    let told = rw c.in-Err-BadCast.field-0-is at c.in-Err-BadCast.ensures in
    let target = type_view c.args.target.now in
    let operand = c.args.operand.now in
    (refl, row_broken operand (column target (map (cast3 target) operand.rows)) BadCast BadCast c.dtype.ensures.fit told)

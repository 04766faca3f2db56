use Rattle.std.proofs.Common.{Result, sym, subst}
use Rattle.vx_dtype.specs.TypeViews.{type_view}
use Rattle.vx_laws_sql.specs.Operands.{Operand}
use Rattle.vx_laws_statements.specs.Refusals.{Refusal}
use Rattle.vx_sql_forms.specs.Views.{operand_view}
use Rattle.vx_sql.specs.Answers.{AnswersBy}
use Rattle.vx_sql.proofs.WithinLemmas.{within_more}
use Rattle.vx_sql.proofs.expressions.+operand.Goals as goal

-- src/expressions.rt:24:1
pub operand_within-returns : goal.operand_within-returns
operand_within-returns t c =
    let more = within_more c.args.levels (type_view c.args.columns.now) c.args.e.now c.if-levels-eq0.false in
    subst (λ (told : Result Operand Refusal). AnswersBy operand_view told c.opened.result) (sym more) c.opened.ensures

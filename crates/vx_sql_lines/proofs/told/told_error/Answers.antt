use Rattle.std.proofs.Common.{sym, subst}
use Rattle.vx_dtype.specs.TypeViews.{type_view}
use Rattle.vx_sql.specs.StatementAnswers.{statement_refusal_view}
use Rattle.vx_sql.specs.declared.statement_refusals.SqlError.{SqlError}
use Rattle.vx_sql_lines.specs.Lines.{line_of}
use Rattle.vx_sql_lines.specs.Told.{TellsError}
use Rattle.vx_sql_lines.proofs.told.told_error.Goals as goal

pub returns-in-Refused : goal.returns-in-Refused
returns-in-Refused c =
    let text = c.args.text.now in
    let t = type_view c.args.columns.now in
    subst (λ (e : SqlError). TellsError text t e c.told_line.result) (sym c.in-Refused.is)
    (c.told_line.ensures (line_of text t (statement_refusal_view c.in-Refused.refusal)) (c.shared_line.ensures c.in-Refused.refusal c.new.ensures.ok))

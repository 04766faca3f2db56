use Rattle.std.proofs.Common.{◌≡◌, ◌∙◌, subst, IfOk}
use Rattle.std.specs.String.{string_bytes}
use Rattle.vx_dtype.specs.TypeViews.{type_view}
use Rattle.vx_sql.specs.StatementAnswers.{statement_refusal_view}
use Rattle.vx_sql.specs.declared.statement_refusals.StatementRefusal.{StatementRefusal}
use Rattle.vx_sql_lines.specs.Lines.{line_of}
use Rattle.vx_sql_lines.proofs.told.shared_line.Goals as goal

pub returns-in-Ok : goal.returns-in-Ok
returns-in-Ok c = λ r same.
    let is : c.in-Ok.shared.value ≡ r = subst (λ q. IfOk q (λ shared. shared.value ≡ r)) c.in-Ok.is same in
    subst (λ (x : StatementRefusal). IfOk c.line_of.result (λ line. string_bytes line ≡ line_of c.args.text.now (type_view c.args.columns.now) (statement_refusal_view x)))
    (c.deref.ensures ∙ is) c.line_of.ensures

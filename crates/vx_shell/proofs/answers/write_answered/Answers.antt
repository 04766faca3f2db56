use Rattle.std.proofs.Common.{sym, subst, Err}
use Rattle.vx_laws_shell.specs.Running.{end_by}
use Rattle.vx_laws_statements.specs.Statements.{plan_of}
use Rattle.vx_semantics.specs.Tables.{row_type}
use Rattle.vx_sql.specs.StatementAnswers.{plan_view}
use Rattle.vx_sql_lines.specs.Told.{TellsStatement}
use Rattle.vx_shell.specs.declared.errors.Refusal.{Refusal}
use Rattle.vx_shell.specs.Founds.{FindsStatement}
use Rattle.vx_shell.specs.Refusals.{statement_refusal}
use Rattle.vx_shell.proofs.StatementAnswers.{planned_finds, statement_refused, unplanned_finds}
use Rattle.vx_shell.proofs.answers.write_answered.Goals as goal

pub write_planned-requires : goal.write_planned-requires
write_planned-requires g c =
    let t = row_type (g.S.ColumnStore.seen c.args.store.now).zones.columns in
    let text = c.args.statement.now in
    record { rules = c.requires.rules; planned = (text, subst (TellsStatement plan_view text t (plan_of t text)) c.in-Ok.is c.requires.answer) }

pub returns-in-Ok-clause-finds : goal.returns-in-Ok-clause-finds
returns-in-Ok-clause-finds g c =
    let first = g.S.ColumnStore.seen c.args.store.now in
    let last = g.S.ColumnStore.seen c.write_planned.new.store in
    let before = end_by g.O.Sink.written g.O.Sink.faults c.args.output.now in
    let after = end_by g.O.Sink.written g.O.Sink.faults c.write_planned.new.output in
    let t = row_type first.zones.columns in
    let text = c.args.statement.now in
    planned_finds text (plan_view c.in-Ok.plan) first last before after c.write_planned.result c.requires.agrees
    (subst (TellsStatement plan_view text t (plan_of t text)) c.in-Ok.is c.requires.answer) c.write_planned.ensures.finds

pub returns-in-Err-clause-finds : goal.returns-in-Err-clause-finds
returns-in-Err-clause-finds g c =
    let store = g.S.ColumnStore.seen c.args.store.now in
    let output = end_by g.O.Sink.written g.O.Sink.faults c.args.output.now in
    let t = row_type store.zones.columns in
    let text = c.args.statement.now in
    subst (λ (r : Refusal). FindsStatement text store store output output (Err r)) (sym c.from.ensures)
    (unplanned_finds text (statement_refusal c.in-Err.error) store output c.requires.agrees
    (statement_refused text t (plan_of t text) c.in-Err.error (subst (TellsStatement plan_view text t (plan_of t text)) c.in-Err.is c.requires.answer)))

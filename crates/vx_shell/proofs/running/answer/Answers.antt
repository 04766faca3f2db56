use Rattle.std.proofs.Common.{◌∙◌, ap, sym, subst, Ok}
use Rattle.vx_dtype.specs.Types.{no_fields}
use Rattle.vx_laws_shell.specs.Running.{end_by, IsShellRun}
use Rattle.vx_laws_statements.specs.TableNames.{table_named}
use Rattle.vx_semantics.specs.Tables.{row_type}
use Rattle.vx_shell.specs.Refusals.{refusal_kind, refusal_status, statement_refusal}
use Rattle.vx_shell_words.specs.WordViews.{asked_view}
use Rattle.vx_shell.specs.declared.errors.Refusal.{Refusal}
use Rattle.vx_folder.specs.PathViews.{paths_by}
use Rattle.vx_shell.proofs.ShellRuns.{unnamed_run}
use Rattle.vx_shell.proofs.StatementAnswers.{statement_refused}
use Rattle.vx_shell.proofs.running.answer.Goals as goal

pub returns-in-Ok : goal.returns-in-Ok
returns-in-Ok g c = λ words form.
    c.answer_named.ensures words (record { form = form; named = c.in-Ok.ensures ∙ ap Ok (sym c.as_str.ensures) })

pub returns-in-Err : goal.returns-in-Err
returns-in-Err g c = λ words form.
    let text = c.args.asked.statement.now in
    let input = end_by g.I.Source.left g.I.Source.faults c.args.input.now in
    let output = end_by g.O.Sink.written g.O.Sink.faults c.args.output.now in
    let paths = paths_by (g.F.Files.kept c.args.files.now) (g.F.Files.listed c.args.files.now) in
    subst (λ (r : Refusal). IsShellRun words paths input input output output (refusal_status r)) (sym c.from.ensures)
    (unnamed_run words paths input output (asked_view c.args.asked) (refusal_kind (statement_refusal c.in-Err.error)) form
    (statement_refused text (row_type no_fields) (table_named text) c.in-Err.error c.in-Err.ensures))

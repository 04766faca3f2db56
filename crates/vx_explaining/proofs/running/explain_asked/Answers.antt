use Rattle.std.proofs.Common.{◌∙◌, ap, sym, Ok}
use Rattle.vx_folder.specs.PathViews.{paths_by}
use Rattle.vx_laws_shell.specs.Running.{end_by}
use Rattle.vx_explaining.specs.ExplainedViews.{asked_view}
use Rattle.vx_explaining.proofs.RunLemmas.{unnamed_answer}
use Rattle.vx_explaining.proofs.running.explain_asked.Goals as goal

pub returns-in-Ok : goal.returns-in-Ok
returns-in-Ok g c = λ words form. c.explain_named.ensures words (record { form = form; named = c.in-Ok.ensures ∙ ap Ok (sym c.as_str.ensures) })

pub returns-in-Err : goal.returns-in-Err
returns-in-Err g c = λ words form.
    unnamed_answer words (paths_by (g.F.Files.kept c.args.files.now) (g.F.Files.listed c.args.files.now))
    (end_by g.I.Source.left g.I.Source.faults c.args.input.now)
    (end_by g.O.Sink.written g.O.Sink.faults c.args.output.now) (asked_view c.args.asked) c.in-Err.error c.statement_refusal.result form
    c.in-Err.ensures c.statement_refusal.ensures

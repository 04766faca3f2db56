use Rattle.std.proofs.Common.{ap, Err}
use Rattle.vx_laws_shell.specs.Running.{end_by}
use Rattle.vx_explaining.specs.ExplainedViews.{asked_view}
use Rattle.vx_explaining.proofs.FileRuns.{open_answer}
use Rattle.vx_explaining.proofs.tables.explain_file.Goals as goal

pub returns-in-Ok : goal.returns-in-Ok
returns-in-Ok g c = λ words i asks.
    c.explain_source.ensures words (g.F.Files.kept c.args.files.now) (g.F.Files.listed c.args.files.now) c.args.path.now i asks c.in-Ok.ensures.opened

pub returns-in-Err : goal.returns-in-Err
returns-in-Err g c = λ words i asks.
    let output = end_by g.O.Sink.written g.O.Sink.faults c.args.output.now in
    open_answer words (g.F.Files.kept c.args.files.now) (g.F.Files.listed c.args.files.now) i output (asked_view c.args.asked) c.args.path.now asks
    c.in-Err.error c.open_refusal.result (λ same. c.in-Err.ensures.refused (ap Err same)) c.open_refusal.ensures

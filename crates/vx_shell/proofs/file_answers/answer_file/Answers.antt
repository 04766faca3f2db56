use Rattle.std.proofs.Common.{ap, Err}
use Rattle.vx_laws_shell.specs.Running.{end_by}
use Rattle.vx_shell.specs.Refusals.{refusal_kind}
use Rattle.vx_shell_words.specs.WordViews.{asked_view}
use Rattle.vx_shell.proofs.ShellRuns.{source_run, open_run}
use Rattle.vx_shell.proofs.file_answers.answer_file.Goals as goal

pub returns-in-Ok : goal.returns-in-Ok
returns-in-Ok g c = λ words name source asks origin.
    let before = end_by g.O.Sink.written g.O.Sink.faults c.args.output.now in
    let after = end_by g.O.Sink.written g.O.Sink.faults c.answer_source.new.output in
    source_run words (g.F.Files.kept c.args.files.now) (g.F.Files.listed c.args.files.now) source before after (asked_view c.args.asked) name c.args.path.now
    (g.F.File.Ranged.bytes c.in-Ok.source) c.answer_source.result asks origin c.in-Ok.ensures.opened c.answer_source.ensures

pub returns-in-Err : goal.returns-in-Err
returns-in-Err g c = λ words name source asks origin.
    let output = end_by g.O.Sink.written g.O.Sink.faults c.args.output.now in
    open_run words (g.F.Files.kept c.args.files.now) (g.F.Files.listed c.args.files.now) source output (asked_view c.args.asked) name c.args.path.now c.in-Err.error
    (refusal_kind c.open_refusal.result) asks origin (λ same. c.in-Err.ensures.refused (ap Err same)) c.open_refusal.ensures

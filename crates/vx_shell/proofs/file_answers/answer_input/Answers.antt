use Rattle.std.proofs.Common.{ap, sym, subst, Err, List, ℕ}
use Rattle.vx_laws_shell.specs.Running.{end_by, IsShellRun}
use Rattle.vx_shell.specs.FileRuns.{AnswersBytes}
use Rattle.vx_shell.specs.Refusals.{refusal_status}
use Rattle.vx_shell.specs.declared.errors.Refusal.{Refusal}
use Rattle.vx_shell_words.specs.WordViews.{asked_view}
use Rattle.vx_shell.proofs.ShellRuns.{bytes_run, input_run}
use Rattle.vx_shell.proofs.file_answers.answer_input.Goals as goal

pub returns-in-Ok : goal.returns-in-Ok
returns-in-Ok g c = λ words name paths asks origin.
    let first = end_by g.I.Source.left g.I.Source.faults c.args.input.now in
    let last = end_by g.I.Source.left g.I.Source.faults c.read_up_to.new.input in
    let before = end_by g.O.Sink.written g.O.Sink.faults c.args.output.now in
    let after = end_by g.O.Sink.written g.O.Sink.faults c.answer_bytes.new.output in
    let answers = subst (λ (bytes : List ℕ). AnswersBytes (asked_view c.args.asked) bytes before after c.answer_bytes.result) c.as_slice.ensures.value c.answer_bytes.ensures in
    bytes_run words paths first last before after (asked_view c.args.asked) name c.in-Ok.bytes.items c.answer_bytes.result asks origin
    (record { bytes = c.in-Ok.ensures.taken; within = c.in-Ok.ensures.within; quiet = c.in-Ok.ensures.quiet }) c.in-Ok.ensures.part answers

pub returns-in-Err : goal.returns-in-Err
returns-in-Err g c = λ words name paths asks origin.
    let first = end_by g.I.Source.left g.I.Source.faults c.args.input.now in
    let last = end_by g.I.Source.left g.I.Source.faults c.read_up_to.new.input in
    let output = end_by g.O.Sink.written g.O.Sink.faults c.args.output.now in
    subst (λ (r : Refusal). IsShellRun words paths first last output output (refusal_status r)) (sym c.from.ensures)
    (input_run words paths first last output (asked_view c.args.asked) name c.in-Err.error asks origin c.in-Err.ensures.part
    (λ same. c.in-Err.ensures.cause (ap Err same)))

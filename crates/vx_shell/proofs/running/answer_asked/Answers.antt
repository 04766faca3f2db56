use Rattle.std.proofs.Common.{sym, subst, ℕ}
use Rattle.vx_laws_shell.specs.Running.{end_by, IsShellRun}
use Rattle.vx_folder.specs.PathViews.{paths_by}
use Rattle.vx_shell.proofs.ShellRuns.{finished_run}
use Rattle.vx_shell.proofs.running.answer_asked.Goals as goal

pub returns-in-Ok : goal.returns-in-Ok
returns-in-Ok g c = λ words form.
    let paths = paths_by (g.F.Files.kept c.args.files.now) (g.F.Files.listed c.args.files.now) in
    let first = end_by g.I.Source.left g.I.Source.faults c.args.input.now in
    let last = end_by g.I.Source.left g.I.Source.faults c.answer.new.input in
    let before = end_by g.O.Sink.written g.O.Sink.faults c.args.output.now in
    let after = end_by g.O.Sink.written g.O.Sink.faults c.answer.new.output in
    finished_run words paths first last before after c.finish.result c.finish.ensures (c.in-Ok.ensures words form)

pub returns-in-Err : goal.returns-in-Err
returns-in-Err g c = λ words form.
    let paths = paths_by (g.F.Files.kept c.args.files.now) (g.F.Files.listed c.args.files.now) in
    let first = end_by g.I.Source.left g.I.Source.faults c.args.input.now in
    let last = end_by g.I.Source.left g.I.Source.faults c.answer.new.input in
    let before = end_by g.O.Sink.written g.O.Sink.faults c.args.output.now in
    let after = end_by g.O.Sink.written g.O.Sink.faults c.answer.new.output in
    subst (λ (status : ℕ). IsShellRun words paths first last before after status) (sym c.refuse.ensures) (c.in-Err.ensures words form)

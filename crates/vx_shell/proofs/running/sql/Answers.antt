use Rattle.std.proofs.Common.{sym, subst, ℕ, map}
use Rattle.std.specs.String.{string_bytes}
use Rattle.vx_laws_shell.specs.Running.{end_by, IsShellRun}
use Rattle.vx_folder.specs.PathViews.{paths_by}
use Rattle.vx_shell_words.specs.WordViews.{asked_view}
use Rattle.vx_shell.proofs.AskedBlocks.{asked_in_order}
use Rattle.vx_shell.proofs.ShellRuns.{ends_misused}
use Rattle.vx_shell.proofs.running.sql.Goals as goal

pub answer_asked-requires : goal.answer_asked-requires
answer_asked-requires g c = asked_in_order (map string_bytes c.args.words.now) (asked_view c.in-Some.asked) (sym c.in-Some.ensures)

pub returns-in-Some : goal.returns-in-Some
returns-in-Some g c = c.answer_asked.ensures (map string_bytes c.args.words.now) (sym c.in-Some.ensures)

pub returns-in-None : goal.returns-in-None
returns-in-None g c =
    let words = map string_bytes c.args.words.now in
    let paths = paths_by (g.F.Files.kept c.args.files.now) (g.F.Files.listed c.args.files.now) in
    let input = end_by g.I.Source.left g.I.Source.faults c.args.input.now in
    let output = end_by g.O.Sink.written g.O.Sink.faults c.args.output.now in
    subst (λ (status : ℕ). IsShellRun words paths input input output output status) (sym c.refuse.ensures)
    (ends_misused words paths input output (sym c.in-None.ensures))

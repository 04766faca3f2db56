use Rattle.std.proofs.Common.{◌+◌, refl, sym}
use Rattle.vx_laws_shell.specs.Running.{end_by}
use Rattle.vx_request.specs.Requests.{most_bytes}
use Rattle.vx_folder.specs.PathViews.{paths_by}
use Rattle.vx_shell.proofs.ShellRuns.{took_nothing, unready_room}
use Rattle.vx_shell.proofs.running.answer_named.Goals as goal

pub returns-in-Ok : goal.returns-in-Ok
returns-in-Ok g c = λ words asks. c.answer_origin.ensures words c.args.name.now asks (sym c.in-Ok.ensures)

pub returns-in-Err : goal.returns-in-Err
returns-in-Err g c = λ words asks.
    let paths = paths_by (g.F.Files.kept c.args.files.now) (g.F.Files.listed c.args.files.now) in
    let input = end_by g.I.Source.left g.I.Source.faults c.args.input.now in
    let output = end_by g.O.Sink.written g.O.Sink.faults c.args.output.now in
    unready_room words paths input input output output (took_nothing (most_bytes + 1) input.bytes) refl

use Rattle.vx_folder.specs.PathViews.{paths_by}
use Rattle.vx_laws_shell.specs.Running.{end_by}
use Rattle.vx_explaining.specs.ExplainedViews.{asked_view}
use Rattle.vx_explaining.specs.OriginViews.{origin_view}
use Rattle.vx_explaining.proofs.RunLemmas.{ask_origin, no_room, took_nothing}
use Rattle.vx_explaining.proofs.running.explain_named.Goals as goal

pub returns-in-Ok : goal.returns-in-Ok
returns-in-Ok g c = λ words asks.
    c.explain_origin.ensures words
    (ask_origin words (asked_view c.args.asked) c.args.name.now (origin_view c.in-Ok.origin) asks c.in-Ok.ensures)

pub returns-in-Err : goal.returns-in-Err
returns-in-Err g c = λ words asks.
    let input = end_by g.I.Source.left g.I.Source.faults c.args.input.now in
    no_room words (paths_by (g.F.Files.kept c.args.files.now) (g.F.Files.listed c.args.files.now)) input input
    (end_by g.O.Sink.written g.O.Sink.faults c.args.output.now) (took_nothing _ input.bytes)

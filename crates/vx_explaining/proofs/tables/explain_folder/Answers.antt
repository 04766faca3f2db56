use Rattle.vx_folder.specs.FolderTables.{table_view}
use Rattle.vx_folder.specs.PathViews.{paths_by}
use Rattle.vx_laws_shell.specs.Running.{end_by}
use Rattle.vx_explaining.specs.ExplainedViews.{asked_view}
use Rattle.vx_explaining.proofs.FolderRuns.{folder_zones, refused_folder}
use Rattle.vx_explaining.proofs.RunLemmas.{took_nothing, zones_answer}
use Rattle.vx_explaining.proofs.tables.explain_folder.Goals as goal

pub returns-in-Ok : goal.returns-in-Ok
returns-in-Ok g c = λ words i asks.
    let paths = paths_by (g.F.Files.kept c.args.files.now) (g.F.Files.listed c.args.files.now) in
    let before = end_by g.O.Sink.written g.O.Sink.faults c.args.output.now in
    let after = end_by g.O.Sink.written g.O.Sink.faults c.explain_zones.new.output in
    let asked = asked_view c.args.asked in
    let table = table_view c.in-Ok.table in
    zones_answer words paths i i before after asked table.zones c.explain_zones.result (took_nothing _ i.bytes)
    (folder_zones words paths i before asked c.args.path.now asks table c.in-Ok.ensures.table c.explain_zones.ensures.sound)
    c.explain_zones.ensures.explains

pub returns-in-Err : goal.returns-in-Err
returns-in-Err g c = λ words i asks.
    let paths = paths_by (g.F.Files.kept c.args.files.now) (g.F.Files.listed c.args.files.now) in
    refused_folder words paths i (end_by g.O.Sink.written g.O.Sink.faults c.args.output.now) (asked_view c.args.asked) c.args.path.now asks c.in-Err.error
    c.folder_refusal.result c.in-Err.ensures.refused c.folder_refusal.ensures

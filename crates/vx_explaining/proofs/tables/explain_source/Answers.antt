use Rattle.std.proofs.Common.{sym, subst, Err}
use Rattle.vx_folder.specs.PathViews.{paths_by}
use Rattle.vx_laws_shell.specs.Running.{end_by}
use Rattle.vx_semantics.specs.Tables.{Zones}
use Rattle.vx_laws_listing.specs.Listing.{AreSoundZones}
use Rattle.vx_explaining.specs.ExplainedViews.{asked_view}
use Rattle.vx_explaining.specs.ExplainingSteps.{AnswersWords, ExplainsZones}
use Rattle.vx_explaining.specs.declared.errors.Refusal.{Refusal}
use Rattle.vx_explaining.proofs.FileRuns.{file_zones, source_answer}
use Rattle.vx_explaining.proofs.RunLemmas.{took_nothing, zones_answer}
use Rattle.vx_explaining.proofs.tables.explain_source.Goals as goal

pub returns-in-Ok : goal.returns-in-Ok
returns-in-Ok g c = λ words kept listed path i asks opened.
    let before = end_by g.O.Sink.written g.O.Sink.faults c.args.output.now in
    let after = end_by g.O.Sink.written g.O.Sink.faults c.explain_zones.new.output in
    let asked = asked_view c.args.asked in
    let header = c.in-Ok.layout in
    let sound : AreSoundZones header.zones = subst AreSoundZones c.zones.ensures c.explain_zones.ensures.sound in
    let explains = subst (λ (z : Zones). ExplainsZones z asked before after c.explain_zones.result) c.zones.ensures c.explain_zones.ensures.explains in
    zones_answer words (paths_by kept listed) i i before after asked header.zones c.explain_zones.result (took_nothing _ i.bytes)
    (file_zones words kept listed i before asked path asks (g.R.Ranged.bytes c.args.file) header opened c.in-Ok.ensures.opens sound) explains

pub returns : goal.returns
returns g c = λ words kept listed path i asks opened.
    let output = end_by g.O.Sink.written g.O.Sink.faults c.args.output.now in
    subst (λ (r : Refusal). AnswersWords words (paths_by kept listed) i i output output (Err r)) (sym c.from.ensures)
    (source_answer words kept listed i output (asked_view c.args.asked) path asks (g.R.Ranged.bytes c.args.file) c.in-Err.error opened c.in-Err.ensures.opens)

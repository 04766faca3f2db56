use Rattle.std.proofs.Common.{◌∙◌, ap, refl, option_map, Some}
use Rattle.vx_scan.specs.StoreViews.{store_seen}
use Rattle.vx_query.specs.Running.{end_by, top_form}
use Rattle.vx_query.specs.RunViews.{top_view}
use Rattle.vx_query.proofs.OutcomeLemmas.{run_ended, run_refused}
use Rattle.vx_query.proofs.running.write_top.Goals as goal

pub returns-in-Ok : goal.returns-in-Ok
returns-in-Ok g c =
    let source = end_by g.I.Source.left g.I.Source.faults in
    let sink = end_by g.O.Sink.written g.O.Sink.faults in
    let form = Some (top_form (top_view c.args.top)) in
    run_ended form form (source c.args.input.now) (source c.top_input.new.input) (sink c.args.output.now) (sink c.write.new.output)
    (option_map store_seen c.top_input.new.used) c.write.result c.status.result c.text.result.now c.in-Ok.ended refl c.in-Ok.ensures.told c.status.ensures
    c.text.ensures c.write.ensures

pub returns-in-Err : goal.returns-in-Err
returns-in-Err g c =
    let source = end_by g.I.Source.left g.I.Source.faults in
    let sink = end_by g.O.Sink.written g.O.Sink.faults in
    let form = Some (top_form (top_view c.args.top)) in
    run_refused form (source c.args.input.now) (source c.top_input.new.input) (sink c.args.output.now) (sink c.write-in-Err.new.output)
    (option_map store_seen c.top_input.new.used) c.write-in-Err.result c.status-in-Err.result c.line.result.now c.in-Err.refusal c.in-Err.ensures.refused
    (ap (option_map store_seen) (c.in-Err.ensures.unused refl ∙ c.requires)) c.status-in-Err.ensures c.line.ensures c.write-in-Err.ensures

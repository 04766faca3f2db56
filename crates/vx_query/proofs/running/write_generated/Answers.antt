use Rattle.std.proofs.Common.{◌∙◌, ap, option_map}
use Rattle.vx_scan.specs.StoreViews.{store_seen}
use Rattle.vx_query.specs.Running.{end_by}
use Rattle.vx_query.proofs.OutcomeLemmas.{told_summed, told_unsummed}
use Rattle.vx_query.proofs.running.write_generated.Goals as goal

pub returns-in-Ok : goal.returns-in-Ok
returns-in-Ok g c =
    let sink = end_by g.O.Sink.written g.O.Sink.faults in
    told_summed c.args.rows (store_seen c.in-Ok.scanned.store) (sink c.args.output.now) (sink c.write.new.output) c.write.result c.as_str.result.now
    (c.as_str.ensures.value ∙ c.in-Ok.ensures.line) c.in-Ok.ensures.store c.write.ensures

pub returns-in-Err : goal.returns-in-Err
returns-in-Err g c =
    let sink = end_by g.O.Sink.written g.O.Sink.faults in
    told_unsummed c.args.rows (option_map store_seen c.args.used.now) (sink c.args.output.now) (sink c.write-in-Err.new.output) c.write-in-Err.result
    c.status.result c.line.result.now (ap (option_map store_seen) c.requires) c.status.ensures c.line.ensures c.write-in-Err.ensures

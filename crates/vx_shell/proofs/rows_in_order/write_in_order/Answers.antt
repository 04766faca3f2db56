use Rattle.std.proofs.Common.{subst, [], Err}
use Rattle.vx_laws_shell.specs.Answers.{answer_found, found_in_order}
use Rattle.vx_laws_shell.specs.Running.{end_by}
use Rattle.vx_scan.specs.Opening.{IsPreparedScan, PreparesScan}
use Rattle.vx_semantics.specs.Tables.{Zones}
use Rattle.vx_shell.proofs.OrderedSteps.{prepare_comes, prepare_refused, finds_no_room_as}
use Rattle.vx_shell.proofs.rows_in_order.write_in_order.Goals as goal

pub scan_refusal-requires : goal.scan_refusal-requires
scan_refusal-requires g c =
    let zones = (g.S.ColumnStore.seen c.args.store.now).zones in
    let f = c.args.filter.now in
    let p = c.args.projection.now in
    prepare_comes zones f p c.requires.typed.0 c.in-Err.error c.requires.typed.1
    (subst (λ (z : Zones). PreparesScan z [] f p (Err c.in-Err.error)) c.zones.ensures.zones c.in-Err.ensures)

pub write_prepared-requires : goal.write_prepared-requires
write_prepared-requires g c = record {
  prepared = (
    c.args.projection.now,
    subst (λ (z : Zones). IsPreparedScan z [] c.args.filter.now c.args.projection.now c.in-Ok.scan) c.zones.ensures.zones c.in-Ok.ensures,
  );
}

pub returns-in-Ok-clause-finds : goal.returns-in-Ok-clause-finds
returns-in-Ok-clause-finds g c =
    c.write_prepared.ensures.finds c.args.projection.now
    (subst (λ (z : Zones). IsPreparedScan z [] c.args.filter.now c.args.projection.now c.in-Ok.scan) c.zones.ensures.zones c.in-Ok.ensures)

pub returns-in-Err-clause-finds : goal.returns-in-Err-clause-finds
returns-in-Err-clause-finds g c =
    let store = g.S.ColumnStore.seen c.args.store.now in
    let output = end_by g.O.Sink.written g.O.Sink.faults c.args.output.now in
    let f = c.args.filter.now in
    let p = c.args.projection.now in
    finds_no_room_as (λ is_damaged table. answer_found is_damaged table (found_in_order is_damaged table store.zones f p c.args.limit)) store output
    c.scan_refusal.result
    (prepare_refused store.zones f p c.requires.typed.0 c.in-Err.error c.scan_refusal.result c.requires.typed.1
    (subst (λ (z : Zones). PreparesScan z [] f p (Err c.in-Err.error)) c.zones.ensures.zones c.in-Err.ensures) c.scan_refusal.ensures)

use Rattle.std.proofs.Common.{◌≡◌, ap, sym, [], subst}
use Rattle.vx_dtype.specs.TypeViews.{type_view}
use Rattle.vx_column.specs.Columns.{seen_rows, raw_rows}
use Rattle.vx_semantics.specs.Pruning.{rules_out}
use Rattle.vx_semantics.specs.Tables.{Zones}
use Rattle.vx_scan.specs.Reports.{report_view}
use Rattle.vx_scan.specs.BlockScanning.{IsBlockScanOf}
use Rattle.vx_scan.specs.Opening.{IsPreparedScan}
use Rattle.vx_scan.specs.Steps.{found_view}
use Rattle.vx_scan.specs.declared.errors.ScanError.TheVariants.{NoMemory}
use Rattle.vx_scan.proofs.OneBlockLemmas.{ruled_of, turn_stopped, turn_unreported, turn_reported}
use Rattle.vx_scan.proofs.ReadLemmas.{the_error}
use Rattle.vx_scan.proofs.StandLemmas.{filter_checked}
use Rattle.vx_scan.proofs.one_block.scan_block.Goals as goal

pub is_ruled_out-requires-clause-typed : goal.is_ruled_out-requires-clause-typed
is_ruled_out-requires-clause-typed g c =
    (filter_checked c.args.slots.now c.args.filter.now c.args.projection.now c.in_ok-scan.scan (g.S.ColumnStore.seen c.args.store.now) c.zones.result.now c.zones-2.result.now
    c.zones.ensures.zones c.zones-2.ensures.zones c.in_ok-scan.ensures).0

pub is_ruled_out-requires-clause-slots : goal.is_ruled_out-requires-clause-slots
is_ruled_out-requires-clause-slots g c =
    (filter_checked c.args.slots.now c.args.filter.now c.args.projection.now c.in_ok-scan.scan (g.S.ColumnStore.seen c.args.store.now) c.zones.result.now c.zones-2.result.now
    c.zones.ensures.zones c.zones-2.ensures.zones c.in_ok-scan.ensures).1

pub returns-in_err-scan_or_skip-clause-ends : goal.returns-in_err-scan_or_skip-clause-ends
returns-in_err-scan_or_skip-clause-ends g c =
    let first = g.S.ColumnStore.seen c.args.store.now in
    let last = g.S.ColumnStore.seen c.scan_or_skip.new.store in
    let slots = c.args.slots.now in
    let f = c.args.filter.now in
    let p = c.args.projection.now in
    let block = c.args.block in
    let scan = c.in_ok-scan.scan in
    let is_out = c.in_ok-is_out.is_out in
    let u = type_view scan.projection.dtype in
    let ready : IsPreparedScan first.zones slots f p scan = subst (λ (z : Zones). IsPreparedScan z slots f p scan) c.zones.ensures.zones c.in_ok-scan.ensures in
    let ruled : rules_out first.zones slots block f ≡ is_out = ruled_of slots f block first c.zones-2.result.now is_out c.zones-2.ensures.zones c.in_ok-is_out.ensures in
    let no_rows : seen_rows u c.nothing-found.result.rows.items ≡ [] = ap (seen_rows u) c.nothing-found.ensures.rows in
    let err = c.in_err-scan_or_skip.field-0.0 in
    let residual = c.from_residual-in_err-scan_or_skip in
    let same = the_error residual.result err residual.ensures.0 residual.ensures.1 in
    subst (λ r. IsBlockScanOf slots f p block first last r) (sym same)
    (turn_stopped is_out slots f p scan block first last (found_view u c.nothing-found.result) (found_view u c.scan_or_skip.new.found) err ready ruled no_rows
    (c.in_err-scan_or_skip.ensures.turn f p ready))

pub returns-in_err-report-clause-ends : goal.returns-in_err-report-clause-ends
returns-in_err-report-clause-ends g c =
    let first = g.S.ColumnStore.seen c.args.store.now in
    let last = g.S.ColumnStore.seen c.scan_or_skip.new.store in
    let slots = c.args.slots.now in
    let f = c.args.filter.now in
    let p = c.args.projection.now in
    let block = c.args.block in
    let scan = c.in_ok-scan.scan in
    let is_out = c.in_ok-is_out.is_out in
    let u = type_view scan.projection.dtype in
    let ready : IsPreparedScan first.zones slots f p scan = subst (λ (z : Zones). IsPreparedScan z slots f p scan) c.zones.ensures.zones c.in_ok-scan.ensures in
    let ruled : rules_out first.zones slots block f ≡ is_out = ruled_of slots f block first c.zones-2.result.now is_out c.zones-2.ensures.zones c.in_ok-is_out.ensures in
    let no_rows : seen_rows u c.nothing-found.result.rows.items ≡ [] = ap (seen_rows u) c.nothing-found.ensures.rows in
    let residual = c.from_residual-in_err-report in
    let same = the_error residual.result NoMemory residual.ensures.0 residual.ensures.1 in
    subst (λ r. IsBlockScanOf slots f p block first last r) (sym same)
    (turn_unreported is_out slots f p scan block first last (found_view u c.nothing-found.result) (found_view u c.scan_or_skip.new.found) c.in_ok-scan_or_skip.field-0 ready ruled no_rows
    (c.in_ok-scan_or_skip.ensures.turn f p ready))

pub returns-clause-ends : goal.returns-clause-ends
returns-clause-ends g c =
    let first = g.S.ColumnStore.seen c.args.store.now in
    let last = g.S.ColumnStore.seen c.scan_or_skip.new.store in
    let slots = c.args.slots.now in
    let f = c.args.filter.now in
    let p = c.args.projection.now in
    let block = c.args.block in
    let scan = c.in_ok-scan.scan in
    let is_out = c.in_ok-is_out.is_out in
    let u = type_view scan.projection.dtype in
    let ready : IsPreparedScan first.zones slots f p scan = subst (λ (z : Zones). IsPreparedScan z slots f p scan) c.zones.ensures.zones c.in_ok-scan.ensures in
    let ruled : rules_out first.zones slots block f ≡ is_out = ruled_of slots f block first c.zones-2.result.now is_out c.zones-2.ensures.zones c.in_ok-is_out.ensures in
    let no_rows : seen_rows u c.nothing-found.result.rows.items ≡ [] = ap (seen_rows u) c.nothing-found.ensures.rows in
    let report = c.in_ok-report.ensures in
    let rows : (report_view c.in_ok-report.field-0).rows ≡ seen_rows u c.scan_or_skip.new.found.rows.items = λ i. raw_rows (report.dtype i) (report.rows i) in
    turn_reported is_out slots f p scan block first last (found_view u c.nothing-found.result) (found_view u c.scan_or_skip.new.found) c.in_ok-scan_or_skip.field-0 (report_view c.in_ok-report.field-0)
    ready ruled no_rows c.nothing-found.ensures.kept c.nothing-found.ensures.skipped (c.in_ok-scan_or_skip.ensures.turn f p ready) report.dtype rows report.kept report.skipped report.filter report.projection

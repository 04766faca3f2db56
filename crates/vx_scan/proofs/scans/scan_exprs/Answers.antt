use Rattle.std.proofs.Common.{◌≡◌, sym, length, subst}
use Rattle.vx_dtype.specs.TypeViews.{type_view}
use Rattle.vx_column.specs.Columns.{seen_rows, raw_rows}
use Rattle.vx_scan.specs.Reports.{report_view}
use Rattle.vx_scan.specs.Scanning.{IsScanOf}
use Rattle.vx_scan.specs.Steps.{IsRuledScan}
use Rattle.vx_scan.specs.declared.errors.ScanError.TheVariants.{NoMemory}
use Rattle.vx_scan.proofs.ReadLemmas.{the_error}
use Rattle.vx_scan.proofs.StandLemmas.{filter_checked, ruled_here, step_cut, report_of}
use Rattle.vx_scan.proofs.scans.scan_exprs.Goals as goal

pub ruled_out-requires-clause-typed : goal.ruled_out-requires-clause-typed
ruled_out-requires-clause-typed g c =
    (filter_checked c.args.slots.now c.args.filter.now c.args.projection.now c.in_ok-scan.scan (g.S.ColumnStore.seen c.args.store.now) c.zones.result.now c.zones-2.result.now
    c.zones.ensures.zones c.zones-2.ensures.zones c.in_ok-scan.ensures).0

pub ruled_out-requires-clause-slots : goal.ruled_out-requires-clause-slots
ruled_out-requires-clause-slots g c =
    (filter_checked c.args.slots.now c.args.filter.now c.args.projection.now c.in_ok-scan.scan (g.S.ColumnStore.seen c.args.store.now) c.zones.result.now c.zones-2.result.now
    c.zones.ensures.zones c.zones-2.ensures.zones c.in_ok-scan.ensures).1

pub scan_blocks-requires : goal.scan_blocks-requires
scan_blocks-requires g c = record {
  ruled = (
    c.args.filter.now,
    c.args.projection.now,
    ruled_here c.args.slots.now c.args.filter.now c.args.projection.now c.in_ok-scan.scan (g.S.ColumnStore.seen c.args.store.now) c.zones.result.now c.zones-2.result.now
        c.as_slice.result.now c.in_ok-flags.flags.items c.zones.ensures.zones c.zones-2.ensures.zones c.in_ok-scan.ensures c.as_slice.ensures.value c.in_ok-flags.ensures,
  );
}

pub returns-in_err-report-clause-ends : goal.returns-in_err-report-clause-ends
returns-in_err-report-clause-ends g c =
    let first = g.S.ColumnStore.seen c.args.store.now in
    let last = g.S.ColumnStore.seen c.scan_blocks.new.store in
    let slots = c.args.slots.now in
    let f = c.args.filter.now in
    let p = c.args.projection.now in
    let scan = c.in_ok-scan.scan in
    let found = c.in_ok-found.found in
    let ruled : IsRuledScan first.zones slots f p scan c.as_slice.result.now =
    ruled_here slots f p scan first c.zones.result.now c.zones-2.result.now c.as_slice.result.now c.in_ok-flags.flags.items c.zones.ensures.zones c.zones-2.ensures.zones c.in_ok-scan.ensures
    c.as_slice.ensures.value c.in_ok-flags.ensures in
    let same = the_error c.from_residual-in_err-report.result NoMemory c.from_residual-in_err-report.ensures.0 c.from_residual-in_err-report.ensures.1 in
    subst (λ r. IsScanOf slots f p first last r) (sym same)
    (step_cut slots f p scan (length first.zones.lengths) first last (seen_rows (type_view scan.projection.dtype) found.rows.items) found.kept.items found.skipped.items ruled.prepared
    (c.in_ok-found.ensures.ends f p ruled))

pub returns-clause-ends : goal.returns-clause-ends
returns-clause-ends g c =
    let first = g.S.ColumnStore.seen c.args.store.now in
    let last = g.S.ColumnStore.seen c.scan_blocks.new.store in
    let slots = c.args.slots.now in
    let f = c.args.filter.now in
    let p = c.args.projection.now in
    let scan = c.in_ok-scan.scan in
    let found = c.in_ok-found.found in
    let u = type_view scan.projection.dtype in
    let ruled : IsRuledScan first.zones slots f p scan c.as_slice.result.now =
    ruled_here slots f p scan first c.zones.result.now c.zones-2.result.now c.as_slice.result.now c.in_ok-flags.flags.items c.zones.ensures.zones c.zones-2.ensures.zones c.in_ok-scan.ensures
    c.as_slice.ensures.value c.in_ok-flags.ensures in
    let report = c.in_ok-report.ensures in
    let rows : (report_view c.in_ok-report.field-0).rows ≡ seen_rows u found.rows.items = λ i. raw_rows (report.dtype i) (report.rows i) in
    report_of slots f p scan first last (seen_rows u found.rows.items) found.kept.items found.skipped.items (report_view c.in_ok-report.field-0) ruled.prepared c.zones.ensures.agrees
    (c.in_ok-found.ensures.ends f p ruled) report.dtype rows report.kept report.skipped report.filter report.projection

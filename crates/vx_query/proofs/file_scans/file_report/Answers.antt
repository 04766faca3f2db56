use Rattle.std.specs.String.{string_bytes}
use Rattle.vx_scan.specs.Reports.{report_view}
use Rattle.vx_query.specs.RefusalViews.{file_refusal}
use Rattle.vx_query.proofs.FileScanLemmas.{file_scan_err, unreported_input, reported_input}
use Rattle.vx_query.proofs.file_scans.file_report.Goals as goal

pub returns-in_err-scanned : goal.returns-in_err-scanned
returns-in_err-scanned c =
    file_scan_err c.args.input.now (file_refusal c.in_err-scanned.field-0.0) c.from_residual.result c.from_residual.ensures.1
    (unreported_input c.args.input.now c.in_err-scanned.field-0.0 c.in_err-scanned.ensures.refused)

pub returns : goal.returns
returns c =
    let scanned = c.in_ok-scanned.scanned in
    reported_input c.args.input.now (report_view scanned.report) scanned.file (string_bytes c.in_ok-text.text) c.in_ok-scanned.ensures.reported
    c.in_ok-text.ensures

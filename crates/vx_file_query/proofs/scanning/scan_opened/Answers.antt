use Rattle.std.proofs.Common.{◌≡◌, sym, subst}
use Rattle.vx_wire.specs.Encodings.{is_default_kind}
use Rattle.vx_wire.specs.Registries.{registered}
use Rattle.vx_file_scan.specs.FileScans.{IsFileScan}
use Rattle.vx_file_query.specs.FileAnswers.{IsFileUnreported}
use Rattle.vx_file_query.proofs.FileScanLemmas.{reported_file, unreported_file}
use Rattle.vx_file_query.proofs.scanning.scan_opened.Goals as goal

pub returns-in-Ok-clause-reported : goal.returns-in-Ok-clause-reported
returns-in-Ok-clause-reported c = λ input a asks.
    let kinds : registered c.default-registry.result ≡ is_default_kind = λ j e. (c.default-registry.ensures e) j in
    let before = c.args.file in
    let after = c.scan_file-answer.result.file in
    reported_file input a before after c.in-Ok.report asks.asked asks.ready
    (subst (λ k. k)
    (λ i. IsFileScan (kinds i) (sym asks.filter_text i) (sym asks.projection_text i) before after (c.in-Ok.is i)) c.scan_file-answer.ensures.scanned)

pub returns-in-Err-clause-refused : goal.returns-in-Err-clause-refused
returns-in-Err-clause-refused c = λ input a asks.
    let kinds : registered c.default-registry.result ≡ is_default_kind = λ j e. (c.default-registry.ensures e) j in
    let before = c.args.file in
    let after = c.scan_file-answer.result.file in
    subst (IsFileUnreported input) (sym c.unscanned.ensures)
    (unreported_file input a before after c.in-Err.error asks.asked asks.ready (sym c.source.ensures.faults)
    (subst (λ k. k)
    (λ i. IsFileScan (kinds i) (sym asks.filter_text i) (sym asks.projection_text i) before after (c.in-Err.is i)) c.scan_file-answer.ensures.scanned))

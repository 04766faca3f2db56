use Rattle.std.proofs.Common.{sym, subst}
use Rattle.vx_wire.specs.Registries.{registered}
use Rattle.vx_file.specs.FileStates.{FileState}
use Rattle.vx_file_scan.specs.FirstFailures.{IsUnread}
use Rattle.vx_file_scan.specs.FileScans.{IsFileScan}
use Rattle.vx_file_scan.proofs.FileScanLemmas.{file_scanned}
use Rattle.vx_file_scan.proofs.scanning.scan_file.Goals as goal

pub returns-clause-scanned : goal.returns-clause-scanned
returns-clause-scanned g c =
    let holds = registered c.args.registry.now in
    let first : FileState = c.new-store.result in
    let last : FileState = c.scan-answer.new.store in
    let answer = c.scan-answer.result in
    subst (λ (s : FileState). IsFileScan holds c.args.filter.now c.args.projection.now s c.into_file.result answer) c.new-store.ensures
    (subst (λ (t : FileState). IsFileScan holds c.args.filter.now c.args.projection.now first t answer) (sym c.into_file.ensures.file)
    (file_scanned holds c.args.filter.now c.args.projection.now first last answer (subst IsUnread (sym c.new-store.ensures) c.requires)
    c.scan-answer.ensures.moves c.scan-answer.ensures.same c.scan-answer.ensures.ends c.into_file.ensures.kept))

use Rattle.vx_query.proofs.FileScanCauseLemmas.{file_scan_honest, file_scan_told_honest}
use Rattle.vx_query.proofs.file_scan_causes.honest_file_reports_are_whole.Goals as goal

pub returns-clause-reported : goal.returns-clause-reported
returns-clause-reported c = file_scan_honest c.kept_rows_are_all.ensures

pub returns-clause-told : goal.returns-clause-told
returns-clause-told c = file_scan_told_honest c.kept_rows_are_all.ensures

use Rattle.vx_query.proofs.FileScanCauseLemmas.{file_scan_reported, file_scan_as_told, file_scan_completed}
use Rattle.vx_query.proofs.file_scan_causes.file_scans_are_of_the_request.Goals as goal

pub returns-clause-reported : goal.returns-clause-reported
returns-clause-reported c = file_scan_reported

pub returns-clause-told : goal.returns-clause-told
returns-clause-told c = file_scan_as_told

pub returns-clause-complete : goal.returns-clause-complete
returns-clause-complete c = file_scan_completed

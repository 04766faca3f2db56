use Rattle.vx_query.proofs.FileScanCauseLemmas.{file_scan_refused, file_scan_unscanned}
use Rattle.vx_query.proofs.file_scan_causes.refused_file_scans_have_their_causes.Goals as goal

pub returns-clause-refused : goal.returns-clause-refused
returns-clause-refused c = file_scan_refused

pub returns-clause-unscanned : goal.returns-clause-unscanned
returns-clause-unscanned c = file_scan_unscanned

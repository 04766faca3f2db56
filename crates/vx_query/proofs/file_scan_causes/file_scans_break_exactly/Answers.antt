use Rattle.vx_query.proofs.FileScanCauseLemmas.{file_scan_stopped, told_file_break, says_file_break}
use Rattle.vx_query.proofs.file_scan_causes.file_scans_break_exactly.Goals as goal

pub returns-clause-only : goal.returns-clause-only
returns-clause-only c = file_scan_stopped

pub returns-clause-told : goal.returns-clause-told
returns-clause-told c = told_file_break

pub returns-clause-always : goal.returns-clause-always
returns-clause-always c = says_file_break

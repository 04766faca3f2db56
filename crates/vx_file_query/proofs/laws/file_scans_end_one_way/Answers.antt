use Rattle.vx_file_query.proofs.FileEndLemmas.{one_file_scan, one_ending}
use Rattle.vx_file_query.proofs.laws.file_scans_end_one_way.Goals as goal

pub returns-clause-scan : goal.returns-clause-scan
returns-clause-scan c = one_file_scan

pub returns-clause-ending : goal.returns-clause-ending
returns-clause-ending c = one_ending

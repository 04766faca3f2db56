use Rattle.vx_query.proofs.FileScanCauseLemmas.{misfiled_row}
use Rattle.vx_query.proofs.file_scan_causes.bad_files_are_refused_exactly.Goals as goal

pub returns : goal.returns
returns c = misfiled_row

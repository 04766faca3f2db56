use Rattle.vx_query.proofs.FileScanCauseLemmas.{unscanned_row}
use Rattle.vx_query.proofs.file_scan_causes.file_expressions_are_refused_exactly.Goals as goal

pub returns : goal.returns
returns c = unscanned_row

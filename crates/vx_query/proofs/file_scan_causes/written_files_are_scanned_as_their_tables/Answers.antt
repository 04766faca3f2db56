use Rattle.vx_query.proofs.FileScanCauseLemmas.{written_opened, written_held, written_undamaged}
use Rattle.vx_query.proofs.file_scan_causes.written_files_are_scanned_as_their_tables.Goals as goal

pub returns-clause-opened : goal.returns-clause-opened
returns-clause-opened c = written_opened c.written_is_opened.ensures.opened

pub returns-clause-same : goal.returns-clause-same
returns-clause-same c = written_held c.written_is_opened.ensures.held

pub returns-clause-undamaged : goal.returns-clause-undamaged
returns-clause-undamaged c = written_undamaged c.written_is_opened.ensures.whole

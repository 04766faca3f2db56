use Rattle.vx_query.proofs.FileCauseLemmas.{long_row}
use Rattle.vx_query.proofs.file_causes.long_tables_are_refused_exactly.Goals as goal

pub returns : goal.returns
returns c = long_row c.files_are_short.ensures

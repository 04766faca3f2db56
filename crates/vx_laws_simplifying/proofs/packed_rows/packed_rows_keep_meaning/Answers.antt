use Rattle.vx_laws_simplifying.proofs.PackedRows.{packed_rows_mean}
use Rattle.vx_laws_simplifying.proofs.packed_rows.packed_rows_keep_meaning.Goals as goal

pub returns : goal.returns
returns c = packed_rows_mean

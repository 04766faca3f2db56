use Rattle.vx_laws_simplifying.proofs.PackedRows.{packed_rows_typed}
use Rattle.vx_laws_simplifying.proofs.packed_rows.packed_rows_keep_type.Goals as goal

pub returns : goal.returns
returns c = packed_rows_typed

use Rattle.vx_laws_columns.proofs.OneColumn.{one_column_covers}
use Rattle.vx_laws_columns.proofs.columns.one_column_covers.Goals as goal

pub returns : goal.returns
returns c = one_column_covers

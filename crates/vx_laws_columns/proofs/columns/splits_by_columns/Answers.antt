use Rattle.vx_laws_columns.proofs.ByColumn.{splits_by_columns}
use Rattle.vx_laws_columns.proofs.columns.splits_by_columns.Goals as goal

pub returns : goal.returns
returns c = splits_by_columns

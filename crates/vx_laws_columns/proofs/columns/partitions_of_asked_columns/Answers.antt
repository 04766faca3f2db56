use Rattle.vx_laws_columns.proofs.ByColumn.{partitions_of_asked_columns}
use Rattle.vx_laws_columns.proofs.columns.partitions_of_asked_columns.Goals as goal

pub returns : goal.returns
returns c = partitions_of_asked_columns

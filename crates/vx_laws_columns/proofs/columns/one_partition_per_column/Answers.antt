use Rattle.vx_laws_columns.proofs.ByColumn.{one_partition_per_column}
use Rattle.vx_laws_columns.proofs.columns.one_partition_per_column.Goals as goal

pub returns : goal.returns
returns c = one_partition_per_column

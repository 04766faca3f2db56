use Rattle.vx_laws_columns.proofs.ByColumn.{partitions_ask_their_column}
use Rattle.vx_laws_columns.proofs.columns.partitions_ask_their_column.Goals as goal

pub returns : goal.returns
returns c = partitions_ask_their_column

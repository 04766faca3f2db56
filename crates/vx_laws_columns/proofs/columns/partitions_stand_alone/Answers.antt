use Rattle.vx_laws_columns.proofs.ByColumn.{partitions_stand_alone}
use Rattle.vx_laws_columns.proofs.columns.partitions_stand_alone.Goals as goal

pub returns : goal.returns
returns c = partitions_stand_alone

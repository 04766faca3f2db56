use Rattle.vx_laws_columns.proofs.NodesBreak.{partition_nodes_stand_alone}
use Rattle.vx_laws_columns.proofs.evaluable.partition_nodes_stand_alone.Goals as goal

pub returns : goal.returns
returns c = partition_nodes_stand_alone

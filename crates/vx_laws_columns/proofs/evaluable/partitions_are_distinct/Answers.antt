use Rattle.vx_laws_columns.proofs.DistinctParts.{partitions_are_distinct}
use Rattle.vx_laws_columns.proofs.evaluable.partitions_are_distinct.Goals as goal

pub returns : goal.returns
returns c = partitions_are_distinct

use Rattle.vx_laws_columns.proofs.Breaking.{partitions_break, partitions_break_asked}
use Rattle.vx_laws_columns.proofs.columns.partitions_break.Goals as goal

pub returns-clause-nodes : goal.returns-clause-nodes
returns-clause-nodes c = partitions_break

pub returns-clause-asked : goal.returns-clause-asked
returns-clause-asked c = partitions_break_asked

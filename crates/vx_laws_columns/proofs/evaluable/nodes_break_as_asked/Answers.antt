use Rattle.vx_laws_columns.proofs.NodesBreak.{nodes_break_as_asked}
use Rattle.vx_laws_columns.proofs.evaluable.nodes_break_as_asked.Goals as goal

pub returns : goal.returns
returns c = nodes_break_as_asked

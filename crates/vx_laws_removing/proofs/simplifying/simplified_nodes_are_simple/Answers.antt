use Rattle.vx_laws_removing.proofs.Settled.{simplified_simple}
use Rattle.vx_laws_removing.proofs.simplifying.simplified_nodes_are_simple.Goals as goal

pub returns : goal.returns
returns c = simplified_simple

use Rattle.vx_laws.proofs.Kleene.{and3_comm}
use Rattle.vx_laws.proofs.operators.and_is_commutative.Goals as goal

pub returns : goal.returns
returns c = and3_comm

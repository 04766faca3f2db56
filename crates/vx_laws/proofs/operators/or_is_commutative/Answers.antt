use Rattle.vx_laws.proofs.Kleene.{or3_comm}
use Rattle.vx_laws.proofs.operators.or_is_commutative.Goals as goal

pub returns : goal.returns
returns c = or3_comm

use Rattle.vx_laws.proofs.Kleene.{or3_assoc}
use Rattle.vx_laws.proofs.operators.or_is_associative.Goals as goal

pub returns : goal.returns
returns c = or3_assoc

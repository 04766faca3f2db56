use Rattle.vx_laws.proofs.Kleene.{and3_assoc}
use Rattle.vx_laws.proofs.operators.and_is_associative.Goals as goal

pub returns : goal.returns
returns c = and3_assoc

use Rattle.vx_laws.proofs.Comparing.{inverse_negates}
use Rattle.vx_laws.proofs.operators.inverse_negates.Goals as goal

pub returns : goal.returns
returns c = inverse_negates

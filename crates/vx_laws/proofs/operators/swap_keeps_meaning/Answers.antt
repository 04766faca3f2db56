use Rattle.vx_laws.proofs.Comparing.{swap_keeps}
use Rattle.vx_laws.proofs.operators.swap_keeps_meaning.Goals as goal

pub returns : goal.returns
returns c = swap_keeps

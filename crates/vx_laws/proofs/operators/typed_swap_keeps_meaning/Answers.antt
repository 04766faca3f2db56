use Rattle.vx_laws.proofs.Swapping.{typed_swap_keeps}
use Rattle.vx_laws.proofs.operators.typed_swap_keeps_meaning.Goals as goal

pub returns : goal.returns
returns c = typed_swap_keeps

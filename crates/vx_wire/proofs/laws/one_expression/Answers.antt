use Rattle.vx_wire.proofs.LawLemmas.{one_built}
use Rattle.vx_wire.proofs.laws.one_expression.Goals as goal

pub returns : goal.returns
returns c = one_built

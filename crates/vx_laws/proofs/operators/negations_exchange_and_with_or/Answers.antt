use Rattle.vx_laws.proofs.Kleene.{not3-and3, not3-or3}
use Rattle.vx_laws.proofs.operators.negations_exchange_and_with_or.Goals as goal

pub returns-clause-and : goal.returns-clause-and
returns-clause-and c = not3-and3

pub returns-clause-or : goal.returns-clause-or
returns-clause-or c = not3-or3

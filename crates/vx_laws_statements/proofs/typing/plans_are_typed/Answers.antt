use Rattle.vx_laws_statements.proofs.TypedStatements.{plans-typed}
use Rattle.vx_laws_statements.proofs.typing.plans_are_typed.Goals as goal

pub returns : goal.returns
returns c = plans-typed

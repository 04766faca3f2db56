use Rattle.vx_laws_statements.proofs.TypedExpressions.{conditions-typed}
use Rattle.vx_laws_statements.proofs.typing.conditions_are_tests.Goals as goal

pub returns : goal.returns
returns c = conditions-typed

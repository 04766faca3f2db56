use Rattle.vx_laws_statements.proofs.TypedExpressions.{expressions-typed}
use Rattle.vx_laws_statements.proofs.typing.expressions_are_typed.Goals as goal

pub returns : goal.returns
returns c = expressions-typed

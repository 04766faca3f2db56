use Rattle.vx_laws_generated.proofs.Typed.{generated_filter_is_typed, generated_projection_is_typed}
use Rattle.vx_laws_generated.proofs.tables.generated_expressions_are_typed.Goals as goal

pub returns-clause-filter : goal.returns-clause-filter
returns-clause-filter c = generated_filter_is_typed

pub returns-clause-projection : goal.returns-clause-projection
returns-clause-projection c = generated_projection_is_typed

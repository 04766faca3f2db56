use Rattle.vx_laws_sql.proofs.TypedForms.{casts_are_typed, sums_are_typed, differences_are_typed}
use Rattle.vx_laws_sql.proofs.typing.casts_and_sums_are_typed.Goals as goal

pub returns-clause-casts : goal.returns-clause-casts
returns-clause-casts c = casts_are_typed

pub returns-clause-sums : goal.returns-clause-sums
returns-clause-sums c = sums_are_typed

pub returns-clause-differences : goal.returns-clause-differences
returns-clause-differences c = differences_are_typed

use Rattle.vx_laws_sql.proofs.Typed.{comparisons_are_tests}
use Rattle.vx_laws_sql.proofs.TypedForms.{ranges_are_tests, patterns_are_tests}
use Rattle.vx_laws_sql.proofs.typing.comparisons_are_tests.Goals as goal

pub returns-clause-comparisons : goal.returns-clause-comparisons
returns-clause-comparisons c = comparisons_are_tests

pub returns-clause-ranges : goal.returns-clause-ranges
returns-clause-ranges c = ranges_are_tests

pub returns-clause-patterns : goal.returns-clause-patterns
returns-clause-patterns c = patterns_are_tests

use Rattle.vx_laws_sql.proofs.TypedForms.{null_tests_are_tests, not_null_tests_are_tests}
use Rattle.vx_laws_sql.proofs.typing.null_tests_are_tests.Goals as goal

pub returns-clause-null : goal.returns-clause-null
returns-clause-null c = null_tests_are_tests

pub returns-clause-not_null : goal.returns-clause-not_null
returns-clause-not_null c = not_null_tests_are_tests

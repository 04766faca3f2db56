use Rattle.vx_laws_sql.proofs.TypedForms.{conjunctions_are_tests, disjunctions_are_tests, negations_are_tests}
use Rattle.vx_laws_sql.proofs.typing.connectives_are_tests.Goals as goal

pub returns-clause-and : goal.returns-clause-and
returns-clause-and c = conjunctions_are_tests

pub returns-clause-or : goal.returns-clause-or
returns-clause-or c = disjunctions_are_tests

pub returns-clause-not : goal.returns-clause-not
returns-clause-not c = negations_are_tests

use Rattle.vx_laws_sql.proofs.MeantForms.{null_tests_mean, not_null_tests_mean}
use Rattle.vx_laws_sql.proofs.meaning.null_tests_mean.Goals as goal

pub returns-clause-null : goal.returns-clause-null
returns-clause-null c = null_tests_mean

pub returns-clause-not_null : goal.returns-clause-not_null
returns-clause-not_null c = not_null_tests_mean

use Rattle.vx_laws_sql.proofs.MeantForms.{conjunctions_mean, disjunctions_mean, negations_mean}
use Rattle.vx_laws_sql.proofs.meaning.connectives_mean.Goals as goal

pub returns-clause-and : goal.returns-clause-and
returns-clause-and c = conjunctions_mean

pub returns-clause-or : goal.returns-clause-or
returns-clause-or c = disjunctions_mean

pub returns-clause-not : goal.returns-clause-not
returns-clause-not c = negations_mean

use Rattle.vx_laws_sql.proofs.MeantForms.{patterns_mean, negated_patterns_mean}
use Rattle.vx_laws_sql.proofs.meaning.patterns_mean.Goals as goal

pub returns-clause-like : goal.returns-clause-like
returns-clause-like c = patterns_mean

pub returns-clause-not_like : goal.returns-clause-not_like
returns-clause-not_like c = negated_patterns_mean

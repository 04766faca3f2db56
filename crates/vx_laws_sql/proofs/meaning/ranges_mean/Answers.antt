use Rattle.vx_laws_sql.proofs.MeantForms.{ranges_mean, negated_ranges_mean}
use Rattle.vx_laws_sql.proofs.meaning.ranges_mean.Goals as goal

pub returns-clause-between : goal.returns-clause-between
returns-clause-between c = ranges_mean

pub returns-clause-not_between : goal.returns-clause-not_between
returns-clause-not_between c = negated_ranges_mean

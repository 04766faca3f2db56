use Rattle.vx_laws_sql.proofs.Means.{sums_mean, differences_mean}
use Rattle.vx_laws_sql.proofs.meaning.sums_mean.Goals as goal

pub returns-clause-sums : goal.returns-clause-sums
returns-clause-sums c = sums_mean

pub returns-clause-differences : goal.returns-clause-differences
returns-clause-differences c = differences_mean

use Rattle.vx_laws_sql.proofs.MeantMembers.{memberships_mean, negated_memberships_mean}
use Rattle.vx_laws_sql.proofs.meaning.memberships_mean.Goals as goal

pub returns-clause-listed : goal.returns-clause-listed
returns-clause-listed c = memberships_mean

pub returns-clause-not_listed : goal.returns-clause-not_listed
returns-clause-not_listed c = negated_memberships_mean

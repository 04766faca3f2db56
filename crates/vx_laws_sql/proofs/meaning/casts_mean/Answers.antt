use Rattle.vx_laws_sql.proofs.MeantForms.{casts_mean}
use Rattle.vx_laws_sql.proofs.meaning.casts_mean.Goals as goal

pub returns : goal.returns
returns c = casts_mean

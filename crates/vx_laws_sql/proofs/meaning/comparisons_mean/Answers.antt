use Rattle.vx_laws_sql.proofs.Means.{comparisons_mean}
use Rattle.vx_laws_sql.proofs.meaning.comparisons_mean.Goals as goal

pub returns : goal.returns
returns c = comparisons_mean

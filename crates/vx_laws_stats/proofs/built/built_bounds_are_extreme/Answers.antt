use Rattle.vx_laws_stats.proofs.Extremes.{extreme}
use Rattle.vx_laws_stats.proofs.built.built_bounds_are_extreme.Goals as goal

pub returns : goal.returns
returns c = extreme

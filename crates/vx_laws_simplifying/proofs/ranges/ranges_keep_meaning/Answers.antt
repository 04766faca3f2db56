use Rattle.vx_laws_simplifying.proofs.RangedLaws.{ranges_mean}
use Rattle.vx_laws_simplifying.proofs.ranges.ranges_keep_meaning.Goals as goal

pub returns : goal.returns
returns c = ranges_mean

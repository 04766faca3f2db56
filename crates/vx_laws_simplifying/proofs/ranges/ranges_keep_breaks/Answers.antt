use Rattle.vx_laws_simplifying.proofs.RangedLaws.{ranges_break}
use Rattle.vx_laws_simplifying.proofs.ranges.ranges_keep_breaks.Goals as goal

pub returns : goal.returns
returns c = ranges_break

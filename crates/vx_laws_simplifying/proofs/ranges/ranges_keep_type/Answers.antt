use Rattle.vx_laws_simplifying.proofs.RangedLaws.{ranges_typed}
use Rattle.vx_laws_simplifying.proofs.ranges.ranges_keep_type.Goals as goal

pub returns : goal.returns
returns c = ranges_typed

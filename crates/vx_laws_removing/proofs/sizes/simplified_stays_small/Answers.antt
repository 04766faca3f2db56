use Rattle.vx_laws_removing.proofs.SmallTrees.{simplified_stays_small}
use Rattle.vx_laws_removing.proofs.sizes.simplified_stays_small.Goals as goal

pub returns : goal.returns
returns c = simplified_stays_small

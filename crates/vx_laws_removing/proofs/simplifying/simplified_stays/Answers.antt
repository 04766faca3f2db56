use Rattle.vx_laws_removing.proofs.Settled.{simplified_stays}
use Rattle.vx_laws_removing.proofs.simplifying.simplified_stays.Goals as goal

pub returns : goal.returns
returns c = simplified_stays

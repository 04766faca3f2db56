use Rattle.vx_laws_simplifying.proofs.Alike.{replacing_means}
use Rattle.vx_laws_simplifying.proofs.replacing.replacing_keeps_meaning.Goals as goal

pub returns : goal.returns
returns c = replacing_means

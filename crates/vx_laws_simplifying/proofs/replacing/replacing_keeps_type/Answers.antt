use Rattle.vx_laws_simplifying.proofs.Alike.{replacing_typed}
use Rattle.vx_laws_simplifying.proofs.replacing.replacing_keeps_type.Goals as goal

pub returns : goal.returns
returns c = replacing_typed

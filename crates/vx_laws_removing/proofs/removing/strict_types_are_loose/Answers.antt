use Rattle.vx_laws_removing.proofs.Loosened.{strict_types_are_loose}
use Rattle.vx_laws_removing.proofs.removing.strict_types_are_loose.Goals as goal

pub returns : goal.returns
returns c = strict_types_are_loose

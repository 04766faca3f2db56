use Rattle.vx_laws_parts.proofs.PartsTyped.{parts_are_typed}
use Rattle.vx_laws_parts.specs.contracts.recombining.parts_are_typed.{A-type}
use Rattle.vx_laws_parts.proofs.recombining.parts_are_typed.Goals as goal

pub returns : goal.returns
returns g c = parts_are_typed (A-type g.row.A)

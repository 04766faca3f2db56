use Rattle.vx_laws_parts.proofs.Recombined.{split_recombines}
use Rattle.vx_laws_parts.specs.contracts.recombining.split_recombines.{A-type}
use Rattle.vx_laws_parts.proofs.recombining.split_recombines.Goals as goal

pub returns : goal.returns
returns g c = split_recombines (A-type g.row.A)

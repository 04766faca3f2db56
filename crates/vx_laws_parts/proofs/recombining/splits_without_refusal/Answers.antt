use Rattle.vx_laws_parts.proofs.Recombined.{splits_without_refusal}
use Rattle.vx_laws_parts.specs.contracts.recombining.splits_without_refusal.{A-type}
use Rattle.vx_laws_parts.proofs.recombining.splits_without_refusal.Goals as goal

pub returns : goal.returns
returns g c = splits_without_refusal (A-type g.row.A)

use Rattle.vx_laws_parts.proofs.PartsTyped.{texts_tell_shares}
use Rattle.vx_laws_parts.specs.contracts.recombining.texts_tell_shares.{A-type}
use Rattle.vx_laws_parts.proofs.recombining.texts_tell_shares.Goals as goal

pub returns : goal.returns
returns g c = texts_tell_shares (A-type g.row.A)

use Rattle.vx_laws_shell.proofs.Damage.{damage_is_decided}
use Rattle.vx_laws_shell.proofs.laws.damage_is_decided.Goals as goal

pub returns : goal.returns
returns c = damage_is_decided

use Rattle.vx_laws_shell.proofs.Parts.{parts_join}
use Rattle.vx_laws_shell.proofs.laws.parts_join.Goals as goal

pub returns : goal.returns
returns c = parts_join

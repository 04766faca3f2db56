use Rattle.vx_laws_csv.proofs.Taken.{nothing_is_refused}
use Rattle.vx_laws_csv.proofs.laws.nothing_is_refused.Goals as goal

pub returns : goal.returns
returns c = nothing_is_refused

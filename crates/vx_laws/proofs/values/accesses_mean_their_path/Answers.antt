use Rattle.vx_laws.proofs.Paths.{accesses_mean_their_path}
use Rattle.vx_laws.proofs.values.accesses_mean_their_path.Goals as goal

pub returns : goal.returns
returns c = accesses_mean_their_path

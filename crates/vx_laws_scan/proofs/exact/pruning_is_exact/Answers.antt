use Rattle.vx_laws_scan.proofs.Exacting.{pruning_is_exact}
use Rattle.vx_laws_scan.proofs.exact.pruning_is_exact.Goals as goal

pub returns : goal.returns
returns c = pruning_is_exact

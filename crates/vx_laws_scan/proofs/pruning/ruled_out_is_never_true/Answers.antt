use Rattle.vx_laws_scan.proofs.Ruling.{ruled_out_never_true}
use Rattle.vx_laws_scan.proofs.pruning.ruled_out_is_never_true.Goals as goal

pub returns : goal.returns
returns c = ruled_out_never_true

use Rattle.vx_laws_skipping.proofs.ExactLemmas.{ruled_out_is_exact}
use Rattle.vx_laws_skipping.proofs.skipping.ruled_out_is_exact.Goals as goal

pub returns : goal.returns
returns c = ruled_out_is_exact

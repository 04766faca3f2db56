use Rattle.vx_calls.proofs.HonestLemmas.{ruled_out_has_none}
use Rattle.vx_calls.proofs.laws.ruled_out_blocks_have_no_true_row.Goals as goal

pub returns : goal.returns
returns c = ruled_out_has_none

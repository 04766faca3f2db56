use Rattle.vx_arrays.proofs.ReadBackLemmas.{read_back}
use Rattle.vx_arrays.proofs.laws.bitmap_is_read.Goals as goal

pub returns : goal.returns
returns c = read_back

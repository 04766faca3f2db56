use Rattle.vx_arrays.proofs.BitmapLemmas.{length-bitmap_of}
use Rattle.vx_arrays.proofs.laws.eight_a_byte.Goals as goal

pub returns : goal.returns
returns c = length-bitmap_of

use Rattle.vx_arrays.proofs.BitmapLemmas.{bit_at-bitmap_of}
use Rattle.vx_arrays.proofs.laws.bits_are_truths.Goals as goal

pub returns : goal.returns
returns c = bit_at-bitmap_of

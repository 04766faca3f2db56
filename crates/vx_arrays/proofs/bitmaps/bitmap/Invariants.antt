use Rattle.std.proofs.Common.{◌≡◌, map}
use Rattle.std.specs.List.{range_with_len}
use Rattle.vx_arrays.specs.Bitmaps.{byte_at}
use Rattle.vx_arrays.proofs.bitmaps.bitmap.Given as goal

-- the bytes so far
abbrev pub invariant-loop-k : goal.invariant-loop-k
invariant-loop-k l = l.bytes.items ≡ map (byte_at l.fn.flags) (range_with_len 0 l.k)

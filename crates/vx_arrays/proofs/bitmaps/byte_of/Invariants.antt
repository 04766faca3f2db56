use Rattle.std.proofs.Common.{◌≡◌, ◌≤◌, drop, length}
use Rattle.vx_arrays.specs.Bitmaps.{byte_of}
use Rattle.vx_arrays.proofs.bitmaps.byte_of.Given as goal

-- the byte of the truths from the place on
abbrev pub invariant-loop-left : goal.invariant-loop-left
invariant-loop-left l = (l.left ≤ length l.fn.flags) × (l.byte ≡ byte_of (drop l.left l.fn.flags))

-- how many truths are left
abbrev pub decreases-loop-left : goal.decreases-loop-left
decreases-loop-left l = l.left

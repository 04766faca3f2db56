use Rattle.std.proofs.Common.{◌≡◌, take}
use Rattle.vx_generated.specs.GeneratedViews.{integers_of}
use Rattle.vx_generated.proofs.blocks.integers_of.Given as goal

-- the integers of the numbers so far
abbrev pub invariant-loop-number : goal.invariant-loop-number
invariant-loop-number l = l.integers.items ≡ integers_of (take l.number-index l.fn.numbers)

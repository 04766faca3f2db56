use Rattle.std.proofs.Common.{length}
use Rattle.vx_generated.proofs.numbers.+greatest_of.Given as goal

-- the numbers that are left
abbrev pub decreases-greatest_of : goal.decreases-greatest_of
decreases-greatest_of l = length l.numbers.now

use Rattle.std.proofs.Common.{length}
use Rattle.vx_generated.proofs.numbers.+least_of.Given as goal

-- the numbers that are left
abbrev pub decreases-least_of : goal.decreases-least_of
decreases-least_of l = length l.numbers.now

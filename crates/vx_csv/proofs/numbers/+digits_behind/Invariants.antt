use Rattle.std.proofs.Common.{length}
use Rattle.vx_csv.proofs.numbers.+digits_behind.Given as goal

abbrev pub decreases-digits_behind : goal.decreases-digits_behind
decreases-digits_behind l = length l.digits.now

use Rattle.std.proofs.Common.{length}
use Rattle.vx_dtype.proofs.name_lists.+few_are_distinct.Given as goal

-- how many names are left to compare
abbrev pub decreases-few_are_distinct : goal.decreases-few_are_distinct
decreases-few_are_distinct l = length l.names.now

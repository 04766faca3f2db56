use Rattle.std.proofs.Common.{◌+◌, ◌*◌}
use Rattle.vx_column_cases.proofs.column_calls.+made.Given as goal

-- a call with fewer levels is smaller, and of calls with as many that of one column
abbrev pub decreases-made : goal.decreases-made
decreases-made l = 2 * l.levels

abbrev pub decreases-all_made : goal.decreases-all_made
decreases-all_made l = 2 * l.levels + 1

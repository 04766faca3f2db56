use Rattle.std.proofs.Common.{◌≡◌, ◌≤◌, length, drop}
use Rattle.vx_words.specs.Words.{truth_val}
use Rattle.vx_laws_stats.specs.BuiltStatistics.{least_of, greatest_of}
use Rattle.vx_stats.proofs.bounds.truth_bounds.Given as goal

-- the bounds of the rows from the place on
abbrev pub invariant-loop-left : goal.invariant-loop-left
invariant-loop-left l =
    (l.left ≤ length l.fn.column.rows)
    × (truth_val l.least ≡ least_of (drop l.left l.fn.column.rows))
    × (truth_val l.greatest ≡ greatest_of (drop l.left l.fn.column.rows))

-- how many rows are left
abbrev pub decreases-loop-left : goal.decreases-loop-left
decreases-loop-left l = l.left

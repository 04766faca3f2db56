use Rattle.std.proofs.Common.{◌≡◌, ℕ, List, true, drop, length, ◌≤◌}
use Rattle.std.specs.Ordering.{nat_cmp}
use Rattle.std.specs.Cmp.Lexicographic.{slice_cmp}
use Rattle.std.specs.BTreeSet as set
use Rattle.vx_dtype.specs.TypeRules.{distinct_names, has_name}
use Rattle.vx_dtype.proofs.names.FieldName.are_distinct.Given as goal

-- the names from the place on are distinct, and the set has them
abbrev pub invariant-loop-left : goal.invariant-loop-left
invariant-loop-left l =
    (l.left ≤ length l.fn.names)
    × (distinct_names (drop l.left l.fn.names) ≡ true)
    × ((q : List ℕ) → set.contains (slice_cmp nat_cmp) l.behind q ≡ has_name q (drop l.left l.fn.names))

-- how many names are left to test
abbrev pub decreases-loop-left : goal.decreases-loop-left
decreases-loop-left l = l.left

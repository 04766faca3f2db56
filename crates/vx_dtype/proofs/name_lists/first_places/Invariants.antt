use Rattle.std.proofs.Common.{◌≡◌, List, ℕ, drop, length, ◌≤◌}
use Rattle.std.specs.BTreeMap.{get}
use Rattle.std.specs.Cmp.Lexicographic.{slice_cmp}
use Rattle.std.specs.List.{position_from}
use Rattle.std.specs.Ordering.{nat_cmp}
use Rattle.std.specs.Str.{bytes_eq}
use Rattle.vx_dtype.specs.TypeRules.{distinct_names}
use Rattle.vx_dtype.proofs.name_lists.first_places.Given as goal

-- the map has the first place of each name among those from the place on, and whether these are distinct is known
abbrev pub invariant-loop-left : goal.invariant-loop-left
invariant-loop-left l =
    (l.left ≤ length l.fn.names)
    × ((name : List ℕ) → get (slice_cmp nat_cmp) l.places name ≡ position_from (bytes_eq name) l.left (drop l.left l.fn.names))
    × (l.are_distinct ≡ distinct_names (drop l.left l.fn.names))

-- how many names are left to note
abbrev pub decreases-loop-left : goal.decreases-loop-left
decreases-loop-left l = l.left

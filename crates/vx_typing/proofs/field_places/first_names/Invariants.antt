use Rattle.std.proofs.Common.{◌≡◌, ◌++◌, ℕ, List, drop}
use Rattle.std.specs.List.{filter}
use Rattle.std.specs.Ordering.{nat_cmp}
use Rattle.std.specs.Cmp.Lexicographic.{slice_cmp}
use Rattle.std.specs.BTreeSet as set
use Rattle.vx_dtype.specs.TypeRules.{has_name}
use Rattle.vx_dtype.specs.Structs.{first_names}
use Rattle.vx_typing.proofs.FirstNames.{is_new}
use Rattle.vx_typing.proofs.field_places.first_names.Given as goal

-- the set has the names that were collected, and those that are left and new are behind them
abbrev pub invariant-loop-name : goal.invariant-loop-name
invariant-loop-name l =
    (first_names l.names ≡ l.first.items ++ filter (is_new l.first.items) (first_names (drop l.name-index l.names)))
    × ((q : List ℕ) → set.contains (slice_cmp nat_cmp) l.seen q ≡ has_name q l.first.items)

use Rattle.std.proofs.Common.{◌≡◌, ◌≤◌, length, drop, option_map}
use Rattle.std.specs.Option.{option_or}
use Rattle.std.specs.List.{position_from}
use Rattle.std.specs.Str.{bytes_eq}
use Rattle.std.specs.Ordering.{nat_cmp}
use Rattle.std.specs.Cmp.Lexicographic.{slice_cmp}
use Rattle.std.specs.BTreeMap.{get}
use Rattle.vx_dtype.specs.Types.{Bytes}
use Rattle.vx_typing.specs.MergedFields.{place_of}
use Rattle.vx_typing.proofs.field_places.note_places.Given as goal

-- the first places of the names from the place on are noted
abbrev pub invariant-loop-left : goal.invariant-loop-left
invariant-loop-left l =
    (l.left ≤ length l.names)
    × ((f : Bytes) → get (slice_cmp nat_cmp) l.places f ≡ option_or (option_map (place_of l.giver) (position_from (bytes_eq f) l.left (drop l.left l.names))) (get (slice_cmp nat_cmp) l.fn.places f))

-- how many names are left
abbrev pub decreases-loop-left : goal.decreases-loop-left
decreases-loop-left l = l.left

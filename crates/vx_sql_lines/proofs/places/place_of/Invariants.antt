use Rattle.std.proofs.Common.{◌≡◌, ◌+◌, ◌++◌, length}
use Rattle.std.specs.Option.{option_to_list}
use Rattle.vx_sql_lines.specs.Lines.{place_of, places_from, only_one}
use Rattle.vx_sql_lines.proofs.places.place_of.Given as goal

abbrev pub decreases-loop-left : goal.decreases-loop-left
decreases-loop-left l = length l.left

-- the place that was found, and those in the text that is left
abbrev pub invariant-loop-left : goal.invariant-loop-left
invariant-loop-left l =
    (place_of l.fn.text l.fn.word ≡ only_one (option_to_list l.found ++ places_from l.fn.word l.before l.place l.left))
    × (l.place + length l.left ≡ length l.fn.text)

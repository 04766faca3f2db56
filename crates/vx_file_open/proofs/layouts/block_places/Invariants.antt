use Rattle.std.proofs.Common.{◌≡◌}
use Rattle.vx_file_open.specs.Layouts.{block_place, lists_of, HavePlaces}
use Rattle.vx_file_open.proofs.layouts.block_places.Given as goal

-- the places so far
abbrev pub invariant-loop-i : goal.invariant-loop-i
invariant-loop-i l = HavePlaces l.front (lists_of l.fn.range_lengths) l.i l.places.items × (l.place ≡ block_place l.front (lists_of l.fn.range_lengths) l.i)

use Rattle.std.proofs.Common.{◌≡◌, ◌-◌}
use Rattle.std.specs.List.{list_all, range_with_len}
use Rattle.vx_arrays.specs.Arrays.{has_place}
use Rattle.vx_arrays.proofs.texts.has_places.Given as goal

-- what is left to test
abbrev pub invariant-loop-i : goal.invariant-loop-i
invariant-loop-i l =
    list_all (has_place l.fn.offsets l.fn.bytes) (range_with_len 0 l.fn.rows)
    ≡ list_all (has_place l.fn.offsets l.fn.bytes) (range_with_len l.i (l.fn.rows - l.i))

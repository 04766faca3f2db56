use Rattle.std.proofs.Common.{◌≡◌, ◌*◌, ◌≤◌, map, drop, length}
use Rattle.vx_dtype.specs.TypeViews.{type_view}
use Rattle.vx_arrays.specs.Arrays.{arrays_told, columns_from}
use Rattle.vx_arrays.specs.Readings.{behind}
use Rattle.vx_arrays.proofs.columns.columns_of_arrays.Given as goal

-- the columns so far, before those that are told of the types that are left
abbrev pub invariant-loop-i : goal.invariant-loop-i
invariant-loop-i l =
    (2 * l.first ≤ length l.fn.buffers)
    × (arrays_told (map type_view l.fn.types) l.fn.rows l.fn.body l.fn.buffers
    ≡ behind l.columns.items (columns_from l.first (map type_view (drop l.i l.fn.types)) l.fn.rows l.fn.body l.fn.buffers))

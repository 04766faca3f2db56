use Rattle.std.proofs.Common.{◌≡◌, ◌+◌, ◌*◌, ◌^◌, ◌-◌, max, min}
use Rattle.vx_dtype.specs.TypeRules.{depth_of, depth_below}
use Rattle.vx_dtype.specs.TypeViews.{type_view}
use Rattle.vx_dtype.proofs.ZippedLemmas.{fields_from}
use Rattle.vx_dtype.proofs.types.depth.+depth.Given as goal

-- twice the depth, and one more for an element type or a list of fields, which is as deep as its deepest
abbrev pub decreases-depth_within : goal.decreases-depth_within
decreases-depth_within l = 2 * depth_of (type_view l.dtype.now)

abbrev pub decreases-element_depth : goal.decreases-element_depth
decreases-element_depth l = 2 * depth_of l.element.now + 1

abbrev pub decreases-fields_depth : goal.decreases-fields_depth
decreases-fields_depth l = 2 * depth_below l.fields.now + 1

-- the deepest so far and the deepest that is left
abbrev pub invariant-fields_depth-loop-i : goal.invariant-fields_depth-loop-i
invariant-fields_depth-loop-i l =
    min (depth_below l.fields) (2 ^ 64 - 1)
    ≡ max l.deepest (min (depth_below (fields_from type_view l.i l.fields-inside.names l.fields-inside.dtypes.value.items)) (2 ^ 64 - 1))

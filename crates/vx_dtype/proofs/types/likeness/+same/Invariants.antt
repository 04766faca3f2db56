use Rattle.std.proofs.Common.{◌≡◌, ◌+◌, ◌*◌, length}
use Rattle.vx_dtype.specs.TypeRules.{depth_of, depth_below}
use Rattle.vx_dtype.specs.Agreeing.{fields_agree}
use Rattle.vx_dtype.specs.TypeViews.{type_view}
use Rattle.vx_dtype.proofs.ZippedLemmas.{fields_from}
use Rattle.vx_dtype.proofs.types.likeness.+same.Given as goal

-- twice the depth, and one more for an element type or a list of fields, which is as deep as its deepest
abbrev pub decreases-same : goal.decreases-same
decreases-same l = 2 * depth_of (type_view l.left.now)

abbrev pub decreases-same_elements : goal.decreases-same_elements
decreases-same_elements l = 2 * depth_of l.left.now + 1

abbrev pub decreases-same_fields : goal.decreases-same_fields
decreases-same_fields l = 2 * depth_below l.left.now + 1

-- what is left to compare
abbrev pub invariant-same_fields-loop-i : goal.invariant-same_fields-loop-i
invariant-same_fields-loop-i l =
    (length l.left-inside.dtypes.value.items ≡ length l.right-inside.dtypes.value.items)
    × (fields_agree l.by l.left l.right
    ≡ fields_agree l.by (fields_from type_view l.i l.left-inside.names l.left-inside.dtypes.value.items) (fields_from type_view l.i l.right-inside.names l.right-inside.dtypes.value.items))

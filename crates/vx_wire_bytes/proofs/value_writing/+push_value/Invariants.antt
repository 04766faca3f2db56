use Rattle.std.proofs.Common.{◌+◌, ◌*◌}
use Rattle.vx_dtype.specs.TypeRules.{depth_of, depth_below}
use Rattle.vx_dtype.specs.TypeViews.{type_view}
use Rattle.vx_dtype.specs.RawViews.{raw_view}
use Rattle.vx_wire_bytes.proofs.ValueWriting.{IsWritingElements, IsWritingMembers}
use Rattle.vx_wire_bytes.proofs.value_writing.+push_value.Given as goal

abbrev pub decreases-push_value : goal.decreases-push_value
decreases-push_value l = 2 * depth_of (type_view l.dtype.now)

abbrev pub decreases-push_elements : goal.decreases-push_elements
decreases-push_elements l = 2 * depth_of (type_view l.dtype.now) + 1

abbrev pub decreases-push_members : goal.decreases-push_members
decreases-push_members l = 2 * depth_below l.fields.now + 1

abbrev pub invariant-push_elements-loop-i : goal.invariant-push_elements-loop-i
invariant-push_elements-loop-i l = IsWritingElements raw_view l.fn.out.items l.out.items (type_view l.dtype) l.elements l.i

abbrev pub invariant-push_members-loop-i : goal.invariant-push_members-loop-i
invariant-push_members-loop-i l = IsWritingMembers raw_view l.fn.out.items l.out.items l.fields l.values l.i

use Rattle.std.proofs.Common.{◌+◌, ◌*◌}
use Rattle.vx_dtype.specs.TypeRules.{depth_of, depth_below}
use Rattle.vx_dtype.specs.TypeViews.{type_view}
use Rattle.vx_wire_bytes.proofs.TypeWriting.{IsWritingFields}
use Rattle.vx_wire_bytes.proofs.type_writing.+push_type.Given as goal

abbrev pub decreases-push_fields : goal.decreases-push_fields
decreases-push_fields l = 2 * depth_below l.fields.now + 1

abbrev pub decreases-push_type : goal.decreases-push_type
decreases-push_type l = 2 * depth_of (type_view l.dtype.now)

abbrev pub invariant-push_fields-loop-i : goal.invariant-push_fields-loop-i
invariant-push_fields-loop-i l = IsWritingFields l.fn.out.items l.out.items l.fields l.i

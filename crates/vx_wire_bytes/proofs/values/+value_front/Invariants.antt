use Rattle.std.proofs.Common.{◌+◌, ◌*◌}
use Rattle.vx_dtype.specs.TypeRules.{depth_of, depth_below}
use Rattle.vx_dtype.specs.TypeViews.{type_view}
use Rattle.vx_dtype.specs.RawViews.{raw_view}
use Rattle.vx_wire_bytes.specs.ValueReading.{value_at}
use Rattle.vx_wire_bytes.proofs.ValueLoops.{IsReadingElements, IsReadingMembers}
use Rattle.vx_wire_bytes.proofs.values.+value_front.Given as goal

abbrev pub decreases-value_front : goal.decreases-value_front
decreases-value_front l = 3 * depth_of (type_view l.dtype.now) + 1

abbrev pub decreases-kind_front : goal.decreases-kind_front
decreases-kind_front l = 3 * depth_of (type_view l.dtype.now)

abbrev pub decreases-elements_front : goal.decreases-elements_front
decreases-elements_front l = 3 * depth_of (type_view l.dtype.now) + 2

abbrev pub decreases-members_front : goal.decreases-members_front
decreases-members_front l = 3 * depth_below l.fields.now + 2

abbrev pub invariant-elements_front-loop : goal.invariant-elements_front-loop
invariant-elements_front-loop l = IsReadingElements raw_view (value_at (type_view l.dtype)) l.bytes l.number l.counter l.rest l.elements.items

abbrev pub invariant-members_front-loop-i : goal.invariant-members_front-loop-i
invariant-members_front-loop-i l = IsReadingMembers raw_view l.fields l.bytes l.i l.rest l.values.items

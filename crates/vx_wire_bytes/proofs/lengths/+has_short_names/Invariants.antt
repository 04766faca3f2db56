use Rattle.std.proofs.Common.{◌+◌, ◌*◌}
use Rattle.vx_dtype.specs.TypeRules.{depth_of, depth_below}
use Rattle.vx_dtype.specs.TypeViews.{type_view}
use Rattle.vx_wire_bytes.proofs.LengthLemmas.{IsTestingFields}
use Rattle.vx_wire_bytes.proofs.lengths.+has_short_names.Given as goal

abbrev pub decreases-has_short_fields : goal.decreases-has_short_fields
decreases-has_short_fields l = 2 * depth_below l.fields.now + 1

abbrev pub decreases-has_short_names : goal.decreases-has_short_names
decreases-has_short_names l = 2 * depth_of (type_view l.dtype.now)

abbrev pub invariant-has_short_fields-loop-i : goal.invariant-has_short_fields-loop-i
invariant-has_short_fields-loop-i l = IsTestingFields l.fields l.i

use Rattle.std.proofs.Common.{◌≡◌, ◌+◌, ◌*◌, [], ◌++◌}
use Rattle.std.specs.Str.{IsUtf8}
use Rattle.std.specs.String.{string_bytes}
use Rattle.vx_dtype.specs.TypeRules.{depth_of, depth_below}
use Rattle.vx_dtype.specs.TypeViews.{type_view}
use Rattle.vx_dtype.proofs.FieldsFrom.{fields_from}
use Rattle.vx_laws_listing.specs.ListingTexts.{fields_json}
use Rattle.vx_listing.proofs.columns.+push.Given as goal

-- twice the depth of a type, and one more than that of the deepest field
abbrev pub decreases-push_type : goal.decreases-push_type
decreases-push_type l = 2 * depth_of (type_view l.dtype.now)

abbrev pub decreases-push_fields : goal.decreases-push_fields
decreases-push_fields l = 2 * depth_below l.fields.now + 1

abbrev pub invariant-push_fields-loop-i : goal.invariant-push_fields-loop-i
invariant-push_fields-loop-i l =
    IsUtf8 l.separator × (string_bytes l.out ++ fields_json l.separator (fields_from l.i l.fields) ≡ string_bytes l.fn.out ++ fields_json [] l.fields)

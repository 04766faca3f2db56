use Rattle.std.proofs.Common.{◌≡◌, ◌+◌, ◌*◌, map, [], ◌++◌, codes, drop}
use Rattle.std.specs.Str.{IsUtf8}
use Rattle.std.specs.String.{string_bytes}
use Rattle.vx_dtype.specs.TypeRules.{depth_of, depth_below}
use Rattle.vx_dtype.specs.TypeViews.{type_view}
use Rattle.vx_dtype.specs.RawViews.{raw_view, raws_of}
use Rattle.vx_dtype.proofs.FieldsFrom.{fields_from}
use Rattle.vx_display.specs.RowTexts.{elements_text, members_text}
use Rattle.vx_display.proofs.rows.+push.Given as goal

-- twice the depth of a type, and one more than that of the elements or of the deepest field
abbrev pub decreases-push_value : goal.decreases-push_value
decreases-push_value l = 2 * depth_of (type_view l.dtype.now)

abbrev pub decreases-push_elements : goal.decreases-push_elements
decreases-push_elements l = 2 * depth_of (type_view l.dtype.now) + 1

abbrev pub decreases-push_members : goal.decreases-push_members
decreases-push_members l = 2 * depth_below l.fields.now + 1

abbrev pub invariant-push_elements-loop-i : goal.invariant-push_elements-loop-i
invariant-push_elements-loop-i l =
    IsUtf8 l.separator
    × (string_bytes l.out ++ elements_text l.separator (raws_of (map raw_view (drop l.i l.values))) (type_view l.dtype)
    ≡ string_bytes l.fn.out ++ (codes "[" ++ elements_text [] (raws_of (map raw_view l.values)) (type_view l.dtype)))

abbrev pub invariant-push_members-loop-i : goal.invariant-push_members-loop-i
invariant-push_members-loop-i l =
    IsUtf8 l.separator
    × (string_bytes l.out ++ members_text l.separator (raws_of (map raw_view (drop l.i l.values))) (fields_from l.i l.fields)
    ≡ string_bytes l.fn.out ++ (codes "{" ++ members_text [] (raws_of (map raw_view l.values)) l.fields))

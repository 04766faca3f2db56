use Rattle.std.proofs.Common.{◌+◌, ◌*◌, []}
use denote.Text.{Utf8}
use denote.Shadow.{shadow}
use Rattle.std.specs.Fmt.{IsPlainFormatter}
use Rattle.vx_dtype.specs.TypeRules.{depth_of, depth_below}
use Rattle.vx_dtype.specs.TypeViews.{type_view}
use Rattle.vx_dtype.proofs.FieldsFrom.{fields_from}
use Rattle.vx_dtype.proofs.PrintingLemmas.{HasBegun}
use Rattle.vx_text.specs.Writing.{labels_text}
use Rattle.vx_text.proofs.constants.+types.Given as goal

-- twice the depth of a type, and one more than that of the deepest field
abbrev pub decreases-write_type : goal.decreases-write_type
decreases-write_type g l = 2 * depth_of (type_view l.dtype.now)

abbrev pub decreases-write_labels : goal.decreases-write_labels
decreases-write_labels g l = 2 * depth_below l.fields.now + 1

-- the separator is text, and what is left is the text of the fields from here on
abbrev pub invariant-write_labels-loop-i : goal.invariant-write_labels-loop-i
invariant-write_labels-loop-i g l =
    shadow (Utf8 l.separator)
    × (IsPlainFormatter l.initial.f → HasBegun g.W.Write.write_str_gives l.initial.f (labels_text [] l.fields) l.f (labels_text l.separator (fields_from l.i l.fields)))

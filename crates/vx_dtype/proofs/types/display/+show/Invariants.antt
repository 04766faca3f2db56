use Rattle.std.proofs.Common.{◌≡◌, ℕ, ◌+◌, ◌*◌, ◌++◌, [], List}
use Rattle.std.specs.Fmt.{HasWritten, IsPlainFormatter}
use Rattle.vx_dtype.specs.Texts.{fields_text, separator_at}
use Rattle.vx_dtype.specs.TypeRules.{depth_of, depth_below}
use Rattle.vx_dtype.specs.TypeViews.{type_view}
use Rattle.vx_dtype.proofs.ZippedLemmas.{fields_from}
use Rattle.vx_dtype.proofs.types.display.+show.Given as goal

-- three times the depth, one more for an element type or a field, and two more for a list of fields, which is as deep as its deepest
abbrev pub decreases-show : goal.decreases-show
decreases-show g l = 3 * depth_of (type_view l.dtype.now)

abbrev pub decreases-show_element : goal.decreases-show_element
decreases-show_element g l = 3 * depth_of l.element.now + 1

abbrev pub decreases-show_fields : goal.decreases-show_fields
decreases-show_fields g l = 3 * depth_below l.fields.now + 2

abbrev pub decreases-show_field : goal.decreases-show_field
decreases-show_field g l = 3 * depth_of (type_view l.dtype.now) + 1

-- what was written, and what is left to write
abbrev pub invariant-show_fields-loop-i : goal.invariant-show_fields-loop-i
invariant-show_fields-loop-i g l =
    IsPlainFormatter l.fn.f →
    (bs : List ℕ) × (HasWritten g.W.Write.write_str_gives l.fn.f bs l.f × (fields_text [] l.fields ≡ bs ++ fields_text (separator_at l.i) (fields_from type_view l.i l.fields-inside.names l.fields-inside.dtypes.value.items)))

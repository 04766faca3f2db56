use Rattle.std.proofs.Common.{◌≡◌, length, map}
use Rattle.vx_dtype.specs.TypeViews.{type_view}
use Rattle.vx_dtype.specs.Zipped.{zipped}
use Rattle.vx_dtype.proofs.FieldsFrom.{fields_from}
use Rattle.vx_semantics.specs.Typing.{fields_without}
use Rattle.vx_typing.proofs.JoinedFields.{joined}
use Rattle.vx_typing.proofs.selections.fields_without.Given as goal

-- what was collected, and what is left
abbrev pub invariant-loop-i : goal.invariant-loop-i
invariant-loop-i l =
    (length l.kept.items ≡ length l.types.items)
    × (fields_without l.names l.fields ≡ joined (zipped l.kept.items (map type_view l.types.items)) (fields_without l.names (fields_from l.i l.fields)))

use Rattle.std.proofs.Common.{◌≡◌, map, take, Some}
use Rattle.std.specs.Ordering.{nat_cmp}
use Rattle.std.specs.Cmp.Lexicographic.{slice_cmp}
use Rattle.std.specs.BTreeMap.{get}
use Rattle.vx_typing.specs.declared.field_places.MergedField.{MergedField}
use Rattle.vx_typing.specs.MergedFields.{name_of}
use Rattle.vx_typing.proofs.field_places.placed_fields.Given as goal

-- the fields of the names so far
abbrev pub invariant-loop-name : goal.invariant-loop-name
invariant-loop-name l =
    (map name_of l.fields.items ≡ take l.name-index l.names)
    × (map (λ (m : MergedField). Some m.place) l.fields.items ≡ map (get (slice_cmp nat_cmp) l.places) (take l.name-index l.names))

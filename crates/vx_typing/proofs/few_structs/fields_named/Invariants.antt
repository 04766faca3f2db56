use Rattle.std.proofs.Common.{◌≡◌, map, take, Some}
use Rattle.vx_dtype.specs.Types.{Bytes}
use Rattle.vx_typing.specs.declared.field_places.MergedField.{MergedField}
use Rattle.vx_typing.specs.MergedFields.{last_place, name_of}
use Rattle.vx_typing.proofs.few_structs.fields_named.Given as goal

-- the fields of the names so far
abbrev pub invariant-loop-name : goal.invariant-loop-name
invariant-loop-name l =
    (map name_of l.fields.items ≡ take l.name-index l.names)
    × (map (λ (m : MergedField). Some m.place) l.fields.items ≡ map (λ (f : Bytes). last_place 0 f l.structs) (take l.name-index l.names))

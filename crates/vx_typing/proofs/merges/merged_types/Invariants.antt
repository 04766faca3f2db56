use Rattle.std.proofs.Common.{◌≡◌, map, take, Some}
use Rattle.vx_dtype.specs.TypeViews.{type_view}
use Rattle.vx_semantics.specs.Typing.{merged_type_at}
use Rattle.vx_typing.specs.declared.field_places.MergedField.{MergedField}
use Rattle.vx_typing.proofs.merges.merged_types.Given as goal

-- the types of the fields so far
abbrev pub invariant-loop-field : goal.invariant-loop-field
invariant-loop-field l = map (λ (m : MergedField). merged_type_at m.name (map type_view l.types)) (take l.field-index l.fields) ≡ map Some (map type_view l.merged.items)
